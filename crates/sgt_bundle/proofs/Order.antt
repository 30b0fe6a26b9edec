-- Where a committed transaction stands in the serial order.
use Rattle.std.proofs.Common.{◌≡◌, ◌≢◌, ℕ, zero, suc, ◌+◌, ◌-◌, ◌<◌, ◌≤◌, Bool, true, false, cond, List, [], ◌∷◌, ◌++◌, length, take, Some, None, refl, sym, ap, ap₂, ◌∙◌, arith, inl, inr, length-append, ltb-true, ltb-false}
use Rattle.std.specs.Prelude.{slice_get, nat_lt, ◌==◌, ◌↔◌}
use Rattle.std.specs.List.{filter, flat_map, range_with_len, cons_option}
use Rattle.std.proofs.lemmas.Bool.{cases_Bool, eq-eqb, ne_eqb, eqb-true, eqb-false, lt-ltb}
use Rattle.std.proofs.lemmas.Grind.{flat_map-append}
use Rattle.std.proofs.lemmas.Option.{same_Some, slice_get_within}
use Rattle.sgt_names.proofs.Places.{All_at, AllPairs_at}
use Rattle.sgt_bundle.specs.Certificate.{AreRanks, IsCommitted, by_rank, rank_limit, ranks, with_rank}
use Rattle.sgt_bundle.specs.declared.certificate.Decision.{Decision}
use Rattle.sgt_bundle.specs.declared.certificate.Decision.TheVariants.{Commit, Refuse, Withdraw}
use Rattle.sgt_bundle.proofs.Ranks.{Apart, at-lt-fold, rank-lt-limit, ranks_at}
use Rattle.sgt_bundle.proofs.Ranks as apart
use Rattle.sgt_bundle.proofs.Runs.{of_rank, of_ranks}
use Rattle.sgt_names.proofs.Lists.{back_at, front_at}

-- how many ranks are below a number, and how many are that number
abbrev below : ℕ → List ℕ → ℕ
below k rs = length (filter (λ r. nat_lt r k) rs)

abbrev equal : ℕ → List ℕ → ℕ
equal k rs = length (filter (λ r. r == k) rs)

abbrev one_if : Bool → ℕ
one_if true = 1
one_if false = 0

length-kept : (b : Bool) (x : ℕ) (xs : List ℕ) → length (cond b (x ∷ xs) xs) ≡ one_if b + length xs
length-kept true x xs = omega arith
length-kept false x xs = omega arith

one-more : (r k : ℕ) (a b c : Bool) → nat_lt r (k + 1) ≡ a → nat_lt r k ≡ b → (r == k) ≡ c
    → one_if a ≡ one_if b + one_if c
one-more r k true true true x y z = let p = ltb-true r k y in let q = eqb-true r k z in absurd (omega arith)
one-more r k true true false x y z = refl
one-more r k true false true x y z = refl
one-more r k true false false x y z = let p = ltb-true r (k + 1) x in let q = ltb-false r k y in let ne =
    eqb-false r k z in absurd (ne (omega arith))
one-more r k false true c x y z = let p = ltb-false r (k + 1) x in let q = ltb-true r k y in absurd (omega arith)
one-more r k false false true x y z = let p = ltb-false r (k + 1) x in let q = eqb-true r k z in absurd (omega arith)
one-more r k false false false x y z = refl

below-next : (k : ℕ) (rs : List ℕ) → below (k + 1) rs ≡ below k rs + equal k rs
below-next k [] = refl
below-next k (r ∷ rs) =
    let a = one-more r k (nat_lt r (k + 1)) (nat_lt r k) (r == k) refl refl refl in
    let b = below-next k rs in
    let c = length-kept (nat_lt r (k + 1)) r (filter (λ s. nat_lt s (k + 1)) rs) in
    let d = length-kept (nat_lt r k) r (filter (λ s. nat_lt s k) rs) in
    let e = length-kept (r == k) r (filter (λ s. s == k) rs) in
    omega (arith, a, b, c, d, e)

below-none : (rs : List ℕ) → below 0 rs ≡ 0
below-none [] = refl
below-none (r ∷ rs) =
    elim (cases_Bool (nat_lt r 0)) [
      | inl hit ↦ let p = ltb-true r 0 hit in absurd (omega arith)
      | inr miss ↦ rw miss (below-none rs)
    ]

below-all : (k : ℕ) (rs : List ℕ) → ((n r : ℕ) → slice_get rs n ≡ Some r → r < k) → below k rs ≡ length rs
below-all k [] h = refl
below-all k (r ∷ rs) h =
    let b = below-all k rs (λ n s at. h (suc n) s at) in
    let c = length-kept (nat_lt r k) r (filter (λ s. nat_lt s k) rs) in
    let a = ap one_if (lt-ltb r k (h 0 r refl)) in
    omega (arith, a, b, c)

-- as many stand under a rank as have it
of_rank-length : (k : ℕ) (ds : List Decision) → length (of_rank ds k) ≡ equal k (ranks ds)
of_rank-length k [] = refl
of_rank-length k (Commit t s ∷ ds) =
    let more = of_rank-length k ds in
    elim (cases_Bool (s == k)) [
      | inl hit ↦ rw hit (omega (arith, more))
      | inr miss ↦ rw miss (omega (arith, more))
    ]
of_rank-length k (Refuse t walk ∷ ds) = of_rank-length k ds
of_rank-length k (Withdraw t ∷ ds) = of_rank-length k ds

of_ranks-length : (ds : List Decision) (m a : ℕ)
    → length (of_ranks ds a m) + below a (ranks ds) ≡ below (a + m) (ranks ds)
of_ranks-length ds zero a = let e : a + 0 ≡ a = omega arith in let f = ap (λ i. below i (ranks ds)) e in
    omega (arith, f)
of_ranks-length ds (suc m) a =
    let e : a + 1 + m ≡ a + suc m = omega arith in
    let f = ap (λ i. below i (ranks ds)) e in
    let more = of_ranks-length ds m (a + 1) in
    let next = below-next a (ranks ds) in
    let here = of_rank-length a ds in
    let both = length-append (of_rank ds a) (of_ranks ds (a + 1) m) in
    omega (arith, f, more, next, here, both)

front-length : (ds : List Decision) (k : ℕ) → length (of_ranks ds 0 k) ≡ below k (ranks ds)
front-length ds k =
    let all = of_ranks-length ds k 0 in
    let none = below-none (ranks ds) in
    let e : 0 + k ≡ k = omega arith in
    let f = ap (λ i. below i (ranks ds)) e in
    omega (arith, all, none, f)

-- all that is committed is run, once for each commit
pub by_rank-length : (ds : List Decision) → length (by_rank ds) ≡ length (ranks ds)
by_rank-length ds = front-length ds (rank_limit ds)
    ∙ below-all (rank_limit ds) (ranks ds) (λ n r at. at-lt-fold (ranks ds) 0 n r at)

range-split : (m n a : ℕ) → range_with_len a (m + n) ≡ range_with_len a m ++ range_with_len (a + m) n
range-split zero n a = let e : 0 + n ≡ n = omega arith in let f : a ≡ a + 0 = omega arith in ap₂ range_with_len f e
range-split (suc m) n a =
    let e : suc m + n ≡ suc (m + n) = omega arith in
    let f : a + 1 + m ≡ a + suc m = omega arith in
    ap (range_with_len a) e
    ∙ ap (λ xs. a ∷ xs) (range-split m n (a + 1) ∙ ap (λ i. range_with_len (a + 1) m ++ range_with_len i n) f)

-- what stands under a rank stands back_at those of smaller rank
at-place : (ds : List Decision) (k i tx : ℕ) → k < rank_limit ds → slice_get (of_rank ds k) i ≡ Some tx
    → slice_get (by_rank ds) (below k (ranks ds) + i) ≡ Some tx
at-place ds k i tx lt at =
    let more = rank_limit ds - (k + 1) in
    let size : rank_limit ds ≡ k + suc more = omega arith in
    let from : 0 + k ≡ k = omega arith in
    let f = λ (rank : ℕ). of_rank ds rank in
    let front = of_ranks ds 0 k in
    let back = of_rank ds k ++ of_ranks ds (k + 1) more in
    let split : by_rank ds ≡ front ++ back =
    ap (of_ranks ds 0) size ∙ ap (flat_map f) (range-split k (suc more) 0)
    ∙ flat_map-append f (range_with_len 0 k) (range_with_len (0 + k) (suc more))
    ∙ ap (λ j. front ++ of_ranks ds j (suc more)) from
    in
    ap₂ slice_get split (ap (λ m. m + i) (sym (front-length ds k))) ∙ back_at front back i
    ∙ front_at (of_rank ds k) (of_ranks ds (k + 1) more) i tx at

-- who is committed stands under his rank back_at those of that rank that were decided before
in_rank : (ds : List Decision) (n tx k : ℕ) → IsCommitted ds n tx k
    → slice_get (of_rank ds k) (equal k (ranks (take n ds))) ≡ Some tx
in_rank [] n tx k at = absurd cc
in_rank (d ∷ ds) zero tx k at =
    let gives : with_rank k d ≡ Some tx = ap (with_rank k) (same_Some d (Commit tx k) at)
    ∙ ap (λ b. cond b (Some tx) None) (eq-eqb k k refl) in
    ap (λ o. slice_get (cons_option o (of_rank ds k)) 0) gives
in_rank (Commit t s ∷ ds) (suc n) tx k at =
    let next : length (s ∷ filter (λ r. r == k) (ranks (take n ds))) ≡ suc (equal k (ranks (take n ds))) =
    omega arith in
    elim (cases_Bool (s == k)) [
      | inl hit ↦ rw hit (ap (slice_get (t ∷ of_rank ds k)) next ∙ in_rank ds n tx k at)
      | inr miss ↦ rw miss (in_rank ds n tx k at)
    ]
in_rank (Refuse t walk ∷ ds) (suc n) tx k at = in_rank ds n tx k at
in_rank (Withdraw t ∷ ds) (suc n) tx k at = in_rank ds n tx k at

pub by_rank-at : (ds : List Decision) (n tx rank : ℕ) → IsCommitted ds n tx rank
    → slice_get (by_rank ds) (length (filter (λ r. nat_lt r rank) (ranks ds)) + length
    (filter (λ r. r == rank) (ranks (take n ds)))) ≡ Some tx
by_rank-at ds n tx rank at = at-place ds rank (equal rank (ranks (take n ds))) tx (rank-lt-limit ds n tx rank at)
    (in_rank ds n tx rank at)

-- ---- ranks that are 0 to n - 1, each once

equal-none : (k : ℕ) (rs : List ℕ) → ((n r : ℕ) → slice_get rs n ≡ Some r → r ≢ k) → equal k rs ≡ 0
equal-none k [] h = refl
equal-none k (r ∷ rs) h =
    let a = ap one_if (ne_eqb r k (h 0 r refl)) in
    let b = equal-none k rs (λ n s at. h (suc n) s at) in
    let c = length-kept (r == k) r (filter (λ s. s == k) rs) in
    omega (arith, a, b, c)

equal-once : (k : ℕ) (rs : List ℕ) (apart : (p q r s : ℕ) → p < q → slice_get rs p ≡ Some r → slice_get rs q ≡ Some s
    → r ≢ s) → equal k rs ≤ 1
equal-once k [] apart = omega arith
equal-once k (r ∷ rs) apart =
    let more = equal-once k rs (λ p q t s lt. apart (suc p) (suc q) t s (omega arith)) in
    let kept = length-kept (r == k) r (filter (λ s. s == k) rs) in
    elim (cases_Bool (r == k)) [
      | inl hit ↦
          let a = ap one_if hit in
          let same = eqb-true r k hit in
          let b = equal-none k rs (λ n s at e. apart 0 (suc n) r s (omega arith) refl at (same ∙ sym e)) in
          omega (arith, a, b, kept)
      | inr miss ↦ let a = ap one_if miss in omega (arith, a, more, kept)
    ]

module _ (rs : List ℕ) (are : AreRanks rs) where
  once : (k : ℕ) → equal k rs ≤ 1
  once k = equal-once k rs (λ p q r s lt at_p at_q. AllPairs_at Apart rs p q r s are.apart lt at_p at_q)

  steps : (m a : ℕ) → below (a + m) rs ≤ below a rs + m
  steps zero a = let e : a + 0 ≡ a = omega arith in let f = ap (λ i. below i rs) e in omega (arith, f)
  steps (suc m) a =
      let e : a + 1 + m ≡ a + suc m = omega arith in
      let f = ap (λ i. below i rs) e in
      let more = steps m (a + 1) in
      let next = below-next a rs in
      let one = once a in
      omega (arith, f, more, next, one)

  -- a rank has as many below it as it says
  below-full : (k : ℕ) → k ≤ length rs → below k rs ≡ k
  below-full k few =
      let rest = length rs - k in
      let e : k + rest ≡ length rs = omega arith in
      let f = ap (λ i. below i rs) e in
      let z : 0 + k ≡ k = omega arith in
      let g = ap (λ i. below i rs) z in
      let none = below-none rs in
      let low = steps k 0 in
      let high = steps rest k in
      let all = below-all (length rs) rs (λ n r at. All_at (λ s. s < length rs) rs n r are.below at) in
      omega (arith, e, f, g, none, low, high, all)

module _ (ds : List Decision) (are : AreRanks (ranks ds)) where
  run-at : (n tx rank : ℕ) → IsCommitted ds n tx rank → slice_get (by_rank ds) rank ≡ Some tx
  run-at n tx rank at =
      elim (apart.of_rank ds rank are.apart) [
        | inl none ↦ absurd (none.none n tx at)
        | inr found ↦
            let place = ranks_at ds n tx rank at in
            let few : rank < length (ranks ds) =
            All_at (λ s. s < length (ranks ds)) (ranks ds) place.0 rank are.below place.1 in
            let full = below-full (ranks ds) are rank (omega (arith, few)) in
            let start : below rank (ranks ds) + 0 ≡ rank = omega (arith, full) in
            let here : slice_get (of_rank ds rank) 0 ≡ Some tx = ap (λ (us : List ℕ). slice_get us 0) found.1.list
            ∙ ap Some (sym (found.1.only n tx at)) in
            ap (slice_get (by_rank ds)) (sym start) ∙ at-place ds rank 0 tx (rank-lt-limit ds n tx rank at) here
      ]

  committed-at : (tx rank : ℕ) → slice_get (by_rank ds) rank ≡ Some tx → (n : ℕ) × IsCommitted ds n tx rank
  committed-at tx rank at =
      let size = by_rank-length ds in
      let within = slice_get_within (by_rank ds) rank tx at in
      elim (apart.of_rank ds rank are.apart) [
        | inl none ↦
            let full = below-full (ranks ds) are rank (omega (arith, size, within)) in
            let next = below-full (ranks ds) are (rank + 1) (omega (arith, size, within)) in
            let more = below-next rank (ranks ds) in
            let here = of_rank-length rank ds in
            let nobody = ap (λ (us : List ℕ). length us) none.list in
            absurd (omega (arith, full, next, more, here, nobody))
        | inr found ↦
            let same : found.0 ≡ tx = same_Some found.0 tx (sym (run-at found.1.number found.0 rank found.1.at) ∙ at) in
            (found.1.number, found.1.at ∙ ap (λ t. Some (Commit t rank)) same)
      ]

  -- each stands at the place that its rank says, and nobody else does
  pub rank-is_place : (tx rank : ℕ) → slice_get (by_rank ds) rank ≡ Some tx ↔ ((n : ℕ) × IsCommitted ds n tx rank)
  rank-is_place tx rank = (committed-at tx rank, λ found. run-at found.0 tx rank found.1)
