-- The decisions up to one more, each with its number; and those on one transaction.
use Rattle.std.proofs.Common.{◌≡◌, ◌≢◌, ℕ, zero, suc, ◌+◌, ◌-◌, ◌<◌, ◌≤◌, true, false, List, [], ◌∷◌, ◌++◌, length, map, take, Option, Some, None, inl, inr, refl, sym, ap, ◌∙◌, subst, arith, All, Contains}
use Rattle.std.specs.Prelude.{slice_get, get_or, IsPermutation, IfNone, IfSome}
use Rattle.std.specs.List.{enumerate_from}
use Rattle.std.specs.List.Sorted.{IsNonDecreasingBy, IsPartitionPoint, IsSortedByKey, IsStableByKey}
use Rattle.std.specs.Ordering.{nat_cmp, is_lt}
use Rattle.std.specs.Cmp.{nat_cmp_is}
use Rattle.std.specs.declared.cmp.Ordering.TheVariants.{Equal, Greater}
use Rattle.std.proofs.Math.Dec.{ltb}
use Rattle.std.proofs.lemmas.Bool.{ltb-true, ltb-false, cases_order, cases_lt}
use Rattle.std.proofs.lemmas.List.{length-take-le, map-append}
use Rattle.std.proofs.lemmas.List.Sorted.{Contains-permutation, IsPermutation-sym, ties_still_rise}
use Rattle.std.proofs.lemmas.Option.{same_Some, none-some, slice_get_within, get_or_from_slice_get}
use Rattle.sgt_names.proofs.Lists.{take_next, within_at, All_in}
use Rattle.sgt_names.proofs.Places.{All-from_at, AllPairs_at, Contains_at, Contains-from_at, slice_get-take}
use Rattle.sgt_bundle.specs.Certificate.{decided_tx, IsCommitted, IsDecidedOnce, rank_in}
use Rattle.sgt_bundle.specs.declared.certificate.Decision.{Decision}
use Rattle.sgt_bundle.specs.declared.certificate.Decision.TheVariants.{Commit, Refuse, Withdraw}
use Rattle.sgt_explain_decisions.specs.declared.placed.Placed.{Placed}
use Rattle.sgt_explain_decisions.specs.Placed.{placed_of, all_placed, TiesRise, ArePlaced, StandBefore, IsDecisionOn, IsFirstOn, IsUndecided, IsUncommitted}
use Rattle.sgt_names.proofs.Elements.{some-weaker, none-weaker}

numbers-append : (n : ℕ) (xs ys : List Decision)
    → enumerate_from n (xs ++ ys) ≡ enumerate_from n xs ++ enumerate_from (n + length xs) ys
numbers-append n [] ys = ap (λ k. enumerate_from k ys) (omega arith)
numbers-append n (x ∷ xs) ys =
    let e : n + 1 + length xs ≡ n + suc (length xs) = omega arith in
    ap (λ ps. (n, x) ∷ ps) (numbers-append (n + 1) xs ys ∙ ap (λ k. enumerate_from (n + 1) xs ++ enumerate_from k ys) e)

pub placed-next : (ds : List Decision) (n : ℕ) (d : Decision) → slice_get ds n ≡ Some d
    → all_placed (take (n + 1) ds) ≡ all_placed (take n ds) ++ placed_of (n, d) ∷ []
placed-next ds n d at =
    let within = slice_get_within ds n d at in
    let long : length (take n ds) ≡ n = length-take-le n ds (omega (arith, within)) in
    ap all_placed (take_next ds n d at) ∙ ap (map placed_of) (numbers-append 0 (take n ds) (d ∷ []))
    ∙ map-append placed_of (enumerate_from 0 (take n ds)) (enumerate_from (0 + length (take n ds)) (d ∷ []))
    ∙ ap (λ k. all_placed (take n ds) ++ map placed_of (enumerate_from k (d ∷ [])))
    (let e : 0 + length (take n ds) ≡ n = omega (arith, long) in e)

-- ---- the decision that a transaction is placed by

placed-at : (k : ℕ) (ds : List Decision) (n : ℕ) (p : Placed)
    → slice_get (map placed_of (enumerate_from k ds)) n ≡ Some p
    → (m : ℕ) × (d : Decision) × (p.number ≡ k + m) × (slice_get ds m ≡ Some d) × (decided_tx d ≡ p.tx)
placed-at k [] n p at = absurd cc
placed-at k (d ∷ ds) zero p at =
    let same = same_Some (placed_of (k, d)) p at in (
      0,
      d,
      ap (λ (q : Placed). q.number) (sym same) ∙ (let e : k ≡ k + 0 = omega arith in e),
      refl,
      ap (λ (q : Placed). q.tx) same,
    )
placed-at k (d ∷ ds) (suc n) p at =
    let found = placed-at (k + 1) ds n p at in
    (suc found.0, found.1, found.2 ∙ (let e : k + 1 + found.0 ≡ k + suc found.0 = omega arith in e), found.3, found.4)

pub placed-is : (ds : List Decision) (ps : List Placed) (p : Placed) → IsPermutation (all_placed ds) ps → Contains ps p
    → (d : Decision) × (slice_get ds p.number ≡ Some d) × (decided_tx d ≡ p.tx)
placed-is ds ps p moved has =
    let at = Contains_at (all_placed ds) p
    (Contains-permutation ps (all_placed ds) p (IsPermutation-sym (all_placed ds) ps moved) has) in
    let found = placed-at 0 ds at.0 p at.1 in
    let e : 0 + found.0 ≡ found.0 = omega arith in
    (found.1, subst (λ n. slice_get ds n ≡ Some found.1) (sym (found.2 ∙ e)) found.3, found.4)

-- a decision stands among all with its number
placed-from : (k : ℕ) (ds : List Decision) (n : ℕ) (d : Decision) → slice_get ds n ≡ Some d
    → Contains (map placed_of (enumerate_from k ds)) (placed_of (k + n, d))
placed-from k [] n d at = absurd (none-some d at)
placed-from k (e ∷ ds) zero d at =
    let first : slice_get (map placed_of (enumerate_from k (e ∷ ds))) 0 ≡ Some (placed_of (k, e)) = refl in
    let here = Contains-from_at (map placed_of (enumerate_from k (e ∷ ds))) 0 (placed_of (k, e)) first in
    let same : k ≡ k + 0 = omega arith in
    subst (λ (b : Decision). Contains (map placed_of (enumerate_from k (e ∷ ds))) (placed_of (k + 0, b)))
    (same_Some e d at)
    (subst (λ m. Contains (map placed_of (enumerate_from k (e ∷ ds))) (placed_of (m, e))) same here)
placed-from k (e ∷ ds) (suc n) d at =
    let same : k + 1 + n ≡ k + suc n = omega arith in
    let tail = map placed_of (enumerate_from (k + 1) ds) in
    let found = Contains_at tail (placed_of (k + 1 + n, d)) (placed-from (k + 1) ds n d at) in
    subst (λ m. Contains (placed_of (k, e) ∷ tail) (placed_of (m, d))) same
    (Contains-from_at (placed_of (k, e) ∷ tail) (suc found.0) (placed_of (k + 1 + n, d)) found.1)

-- ---- a binary search

pub stand-before : (ps : List Placed) (tx at : ℕ)
    → IsPartitionPoint (λ y. ltb y.tx tx ≡ true) (λ y. ltb y.tx tx ≡ false) ps at → StandBefore ps tx at
stand-before ps tx at point = record {
  before = λ n p less is. subst (λ (q : Placed). q.tx < tx) (get_or_from_slice_get ps n p p is)
      (ltb-true _ _ (point.0 n p (omega arith) less));
  behind = λ n p le is. subst (λ (q : Placed). tx ≤ q.tx) (get_or_from_slice_get ps n p p is)
      (ltb-false _ _ (point.1 n p le (slice_get_within ps n p is)));
}

-- where the first that isn't before the transaction is another's, none is its own
pub none-placed : (ps : List Placed) (tx at : ℕ) → IsNonDecreasingBy (λ p. p.tx) ps → StandBefore ps tx at
    → ((p : Placed) → slice_get ps at ≡ Some p → p.tx ≢ tx) → All (λ p. p.tx ≢ tx) ps
none-placed ps tx at rising stand first = All-from_at (λ (p : Placed). p.tx ≢ tx) ps (λ n p is same.
    elim (cases_order n at) [
      | inl here ↦ first p (subst (λ m. slice_get ps m ≡ Some p) here is) same
      | inr (inl less) ↦ (let below = stand.before n p less is in absurd (omega (arith, below, same)))
      | inr (inr more) ↦ (let one = within_at ps at (omega (arith, more, slice_get_within ps n p is)) in
          let far = stand.behind at one.0 (omega arith) one.1 in
          let rises = rising at n one.0 (omega (arith, more)) (slice_get_within ps n p is) in
          let a = ap (λ (q : Placed). q.tx) (get_or_from_slice_get ps at one.0 one.0 one.1) in
          let b = ap (λ (q : Placed). q.tx) (get_or_from_slice_get ps n p one.0 is) in
          first one.0 one.1 (omega (arith, far, rises, a, b, same)))
    ])

-- ---- by their numbers

pub le-not_less : (a b : ℕ) → a ≤ b → is_lt (nat_cmp b a) ≡ false
le-not_less a b le =
    elim (cases_order b a) [
      | inl same ↦ sym (ap is_lt (nat_cmp_is b a Equal same))
      | inr (inl less) ↦ absurd (omega (arith, le, less))
      | inr (inr more) ↦ sym (ap is_lt (nat_cmp_is b a Greater more))
    ]

-- all decisions stand by their numbers
pub numbers-rise : (ds : List Decision) → IsSortedByKey (λ (p : Placed). p.number) nat_cmp (all_placed ds)
numbers-rise ds k d low less =
    let all = all_placed ds in
    let one = within_at all k (omega (arith, less)) in
    let other = within_at all (k + 1) less in
    let a = number-at ds k one.0 one.1 in
    let b = number-at ds (k + 1) other.0 other.1 in
    let p = ap (λ (q : Placed). q.number) (get_or_from_slice_get all k one.0 d one.1) in
    let q = ap (λ (q : Placed). q.number) (get_or_from_slice_get all (k + 1) other.0 d other.1) in
    le-not_less (get_or all k d).number (get_or all (k + 1) d).number (omega (arith, a, b, p, q))
  where
    number-from : (n : ℕ) (es : List Decision) (m : ℕ) (p : Placed)
        → slice_get (map placed_of (enumerate_from n es)) m ≡ Some p → p.number ≡ n + m
    number-from n [] m p at = absurd (none-some p at)
    number-from n (e ∷ es) zero p at = ap (λ (q : Placed). q.number) (sym (same_Some (placed_of (n, e)) p at))
        ∙ (let e : n ≡ n + 0 = omega arith in e)
    number-from n (e ∷ es) (suc m) p at = number-from (n + 1) es m p at
        ∙ (let e : n + 1 + m ≡ n + suc m = omega arith in e)

    number-at : (es : List Decision) (m : ℕ) (p : Placed) → slice_get (all_placed es) m ≡ Some p → p.number ≡ m
    number-at es m p at = number-from 0 es m p at ∙ (let e : 0 + m ≡ m = omega arith in e)

-- a stable sort by transaction leaves those of one transaction by their numbers
pub ties-rise : (ds : List Decision) (ps : List Placed)
    → IsStableByKey (λ (p : Placed). p.tx) nat_cmp (all_placed ds) ps → TiesRise ps
ties-rise ds ps stable k p q at at' same =
    let a = get_or_from_slice_get ps k p p at in
    let b = get_or_from_slice_get ps (k + 1) q p at' in
    let tie = ap (λ (r : Placed). r.tx) a ∙ same ∙ sym (ap (λ (r : Placed). r.tx) b) in
    let rise = ties_still_rise (λ (r : Placed). r.number) (λ (r : Placed). r.tx) (all_placed ds) ps
    (numbers-rise ds) stable k p (slice_get_within ps (k + 1) q at') tie in
    let m = ap (λ (r : Placed). r.number) a in
    let n = ap (λ (r : Placed). r.number) b in
    omega (arith, rise, m, n)

tx-between : (ps : List Placed) (i j : ℕ) (p q : Placed) → IsNonDecreasingBy (λ p. p.tx) ps → i ≤ j
    → slice_get ps i ≡ Some p → slice_get ps j ≡ Some q → p.tx ≤ q.tx
tx-between ps i j p q rising le at at' =
    let rises = rising i j p le (slice_get_within ps j q at') in
    let a = ap (λ (r : Placed). r.tx) (get_or_from_slice_get ps i p p at) in
    let b = ap (λ (r : Placed). r.tx) (get_or_from_slice_get ps j q p at') in
    omega (arith, rises, a, b)

ties-far : (ps : List Placed) → IsNonDecreasingBy (λ p. p.tx) ps → TiesRise ps → (i k : ℕ) (p q : Placed)
    → slice_get ps i ≡ Some p → slice_get ps (i + k) ≡ Some q
    → p.tx ≡ q.tx → p.number ≤ q.number
ties-far ps rising ties i zero p q at at' same =
    let here : i + 0 ≡ i = omega arith in
    let one = ap (λ (r : Placed). r.number) (same_Some p q (sym at ∙ ap (slice_get ps) (sym here) ∙ at')) in
    omega (arith, one)
ties-far ps rising ties i (suc k) p q at at' same =
    let next : i + suc k ≡ i + k + 1 = omega arith in
    let there = sym (ap (slice_get ps) next) ∙ at' in
    let r = within_at ps (i + k) (omega (arith, next, slice_get_within ps (i + suc k) q at')) in
    let low = tx-between ps i (i + k) p r.0 rising (omega arith) at r.1 in
    let high = tx-between ps (i + k) (i + k + 1) r.0 q rising (omega arith) r.1 there in
    let far = ties-far ps rising ties i k p r.0 at r.1 (omega (arith, low, high, same)) in
    let near = ties (i + k) r.0 q r.1 there (omega (arith, low, high, same)) in
    omega (arith, far, near)

-- what stands first of a transaction is the first decision on it
pub first-on : (ds : List Decision) (ps : List Placed) (tx at n : ℕ) → ArePlaced ds ps → StandBefore ps tx at
    → slice_get ps at ≡ Some (record { tx = tx; number = n })
    → IsFirstOn ds tx n
first-on ds ps tx at n placed stand there =
    let own : Placed = record { tx = tx; number = n } in
    let d = placed-is ds ps own placed.all (Contains-from_at ps at own there) in
    record {
      decision = d.0;
      on = record { there = d.1; on = d.2 };
      before = All-from_at (λ (e : Decision). decided_tx e ≢ tx) (take n ds) (λ m e is same.
          let inside = slice_get-take ds n m e is in
          let other : Placed = record { tx = tx; number = m } in
          let has = Contains-permutation (all_placed ds) ps (placed_of (0 + m, e)) placed.all
          (placed-from 0 ds m e inside.1) in
          let e' : 0 + m ≡ m = omega arith in
          let has' : Contains ps other =
          subst (λ t. Contains ps (record { tx = t; number = m })) same
          (subst (λ k. Contains ps (record { tx = decided_tx e; number = k })) e' has) in
          let k = Contains_at ps other has' in
          elim (cases_lt k.0 at) [
            | inl less ↦ (let below = stand.before k.0 other less k.1 in absurd (omega (arith, below)))
            | inr more ↦ (let gap : at + (k.0 - at) ≡ k.0 = omega (arith, more) in
                let rise = ties-far ps placed.rising placed.ties at (k.0 - at) own other there (ap (slice_get ps) gap
                ∙ k.1) refl in
                omega (arith, rise, inside.0))
          ]);
    }

-- ---- the decision on a transaction

pub none-decided : (ds : List Decision) (ps : List Placed) (tx : ℕ) → ArePlaced ds ps → All (λ p. p.tx ≢ tx) ps
    → IsUndecided ds tx
none-decided ds ps tx placed none = All-from_at (λ (d : Decision). decided_tx d ≢ tx) ds (λ n d at.
    All_in (λ (p : Placed). p.tx ≢ tx) ps (placed_of (0 + n, d)) none
    (Contains-permutation (all_placed ds) ps (placed_of (0 + n, d)) placed.all (placed-from 0 ds n d at)))

-- the decision of the number that the transaction is placed by is on it
pub decided-there : (ds : List Decision) (ps : List Placed) (tx n : ℕ) → ArePlaced ds ps
    → Contains ps (record { tx = tx; number = n })
    → (d : Decision) × (slice_get ds n ≡ Some d) × (decided_tx d ≡ tx)
decided-there ds ps tx n placed has = placed-is ds ps (record { tx = tx; number = n }) placed.all has

-- a decision that gives a rank commits its transaction
pub commit-is : (d : Decision) (rank : ℕ) → rank_in d ≡ Some rank → d ≡ Commit (decided_tx d) rank
commit-is (Commit tx r) rank e = ap (Commit tx) (same_Some r rank e)
commit-is (Refuse tx walk) rank e = absurd (none-some rank e)
commit-is (Withdraw tx) rank e = absurd (none-some rank e)

one-decision : (ds : List Decision) (m n : ℕ) (d e : Decision) → IsDecidedOnce ds → slice_get ds m ≡ Some d
    → slice_get ds n ≡ Some e → decided_tx d ≡ decided_tx e → m ≡ n
one-decision ds m n d e once at at' same =
    elim (cases_order m n) [
      | inl here ↦ here
      | inr (inl less) ↦ absurd (AllPairs_at (λ (a b : Decision). decided_tx a ≢ decided_tx b) ds m n d e once less at
          at' same)
      | inr (inr more) ↦ absurd (AllPairs_at (λ (a b : Decision). decided_tx a ≢ decided_tx b) ds n m e d once more
          at' at (sym same))
    ]

pub other-uncommitted : (ds : List Decision) (tx n : ℕ) (d : Decision) → IsDecidedOnce ds → IsDecisionOn ds tx n d
    → rank_in d ≡ None → IsUncommitted ds tx
other-uncommitted ds tx n d once on none m rank is =
    let same = one-decision ds n m d (Commit tx rank) once on.there is on.on in
    let e : d ≡ Commit tx rank = same_Some d (Commit tx rank) (sym on.there ∙ ap (slice_get ds) same ∙ is) in
    none-some rank (sym none ∙ ap rank_in e)

-- a transaction has one rank
pub one-rank : (ds : List Decision) (tx m n r s : ℕ) → IsDecidedOnce ds → IsCommitted ds m tx r
    → IsCommitted ds n tx s → r ≡ s
one-rank ds tx m n r s once one other =
    let same = one-decision ds m n (Commit tx r) (Commit tx s) once one other refl in
    same_Some r s (ap rank_in (same_Some (Commit tx r) (Commit tx s) (sym one ∙ ap (slice_get ds) same ∙ other)))

pub if-none : {A : Type 0} (o : Option A) (P : Type 0) → P → IfNone o P
if-none (Some a) P p = tt
if-none None P p = p
