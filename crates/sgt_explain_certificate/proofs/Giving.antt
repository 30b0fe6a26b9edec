-- The ranks that decisions give, each with the number of its decision.
use Rattle.std.proofs.Common.{◌≡◌, ◌≢◌, ℕ, zero, suc, ◌+◌, ◌<◌, ◌≤◌, List, [], ◌∷◌, ◌++◌, length, map, take, Some, None, inl, inr, refl, sym, ap, ◌∙◌, subst, arith, All, Contains, take_all}
use Rattle.std.specs.Prelude.{slice_get, IsPermutation, Option, IfSome, IfNone, option_map, is_some, true, false, ◌⊎◌, ◌-◌}
use Rattle.std.specs.List.{filter_map, enumerate_from, cons_option}
use Rattle.std.specs.List.Sorted.{IsNonDecreasingBy}
use Rattle.std.proofs.lemmas.List.{length-take-le, length-map, append-nil}
use Rattle.std.proofs.lemmas.List.Elements.{filter_map-append}
use Rattle.std.proofs.lemmas.List.Sorted.{Contains-permutation, IsPermutation-sym, length_permutation}
use Rattle.std.proofs.lemmas.Option.{same_Some, slice_get_within, get_or_from_slice_get, slice_get-map}
use Rattle.std.proofs.lemmas.Bool.{cases_order}
use Rattle.sgt_names.proofs.Lists.{take_next, map_at, All_in, All-next}
use Rattle.sgt_names.proofs.Places.{All-from_at, Contains_at, Contains-from_at, slice_get-none, slice_get-take, slice_get-take_at}
use Rattle.sgt_bundle.specs.Certificate.{IsCommitted, ranks}
use Rattle.sgt_bundle.specs.declared.certificate.Decision.{Decision}
use Rattle.sgt_bundle.specs.declared.certificate.Decision.TheVariants.{Commit, Refuse, Withdraw}
use Rattle.sgt_explain_certificate.specs.declared.ranks.Given.{Given}
use Rattle.sgt_explain_certificate.specs.Ranks.{given_by, given_of, all_given, IsGiven, HasRank, AreDoubled, AreSingle}

-- what stands at a place among the ranks is given by a decision
given-at : (k : ℕ) (ds : List Decision) (n : ℕ) (g : Given)
    → slice_get (filter_map given_of (enumerate_from k ds)) n ≡ Some g
    → (m : ℕ) × (g.number ≡ k + m) × IsCommitted ds m g.tx g.rank
given-at k [] n g at = absurd cc
given-at k (Commit tx rank ∷ ds) zero g at =
    let same = same_Some (record { rank = rank; tx = tx; number = k }) g at in (
      0,
      ap (λ (h : Given). h.number) (sym same) ∙ (let e : k ≡ k + 0 = omega arith in e),
      ap (λ (h : Given). Some (Commit h.tx h.rank)) same,
    )
given-at k (Commit tx rank ∷ ds) (suc n) g at = let found = given-at (k + 1) ds n g at in
    (suc found.0, found.1 ∙ (let e : k + 1 + found.0 ≡ k + suc found.0 = omega arith in e), found.2)
given-at k (Refuse tx walk ∷ ds) n g at = let found = given-at (k + 1) ds n g at in
    (suc found.0, found.1 ∙ (let e : k + 1 + found.0 ≡ k + suc found.0 = omega arith in e), found.2)
given-at k (Withdraw tx ∷ ds) n g at = let found = given-at (k + 1) ds n g at in
    (suc found.0, found.1 ∙ (let e : k + 1 + found.0 ≡ k + suc found.0 = omega arith in e), found.2)

pub given-is : (ds : List Decision) (gs : List Given) (g : Given) → IsPermutation (all_given ds) gs → Contains gs g
    → IsGiven ds g
given-is ds gs g moved has =
    let at = Contains_at (all_given ds) g
    (Contains-permutation gs (all_given ds) g (IsPermutation-sym (all_given ds) gs moved) has) in
    let found = given-at 0 ds at.0 g at.1 in
    let e : 0 + found.0 ≡ found.0 = omega arith in
    subst (λ n. IsCommitted ds n g.tx g.rank) (sym (found.1 ∙ e)) found.2

-- the ranks by themselves
given-ranks : (k : ℕ) (ds : List Decision)
    → map (λ (g : Given). g.rank) (filter_map given_of (enumerate_from k ds)) ≡ ranks ds
given-ranks k [] = refl
given-ranks k (Commit tx rank ∷ ds) = ap (λ rs. rank ∷ rs) (given-ranks (k + 1) ds)
given-ranks k (Refuse tx walk ∷ ds) = given-ranks (k + 1) ds
given-ranks k (Withdraw tx ∷ ds) = given-ranks (k + 1) ds

pub given-count : (ds : List Decision) (gs : List Given) → IsPermutation (all_given ds) gs
    → length gs ≡ length (ranks ds)
given-count ds gs moved =
    length_permutation (all_given ds) gs moved ∙ sym (length-map (all_given ds) (λ (g : Given). g.rank))
    ∙ ap length (given-ranks 0 ds)

pub not-given : (ds : List Decision) (gs : List Given) (rank : ℕ) → IsPermutation (all_given ds) gs
    → All (λ (g : Given). g.rank ≢ rank) gs → Contains (ranks ds) rank → ⊥
not-given ds gs rank moved apart has =
    let at = Contains_at (ranks ds) rank has in
    let g = map_at (λ (g : Given). g.rank) (all_given ds) at.0 rank (ap (λ rs. slice_get rs at.0) (given-ranks 0 ds)
    ∙ at.1) in
    All_in (λ (g : Given). g.rank ≢ rank) gs g.0 apart
    (Contains-permutation (all_given ds) gs g.0 moved (Contains-from_at (all_given ds) at.0 g.0 g.1)) g.2

-- one more decision
numbers-append : (n : ℕ) (xs ys : List Decision)
    → enumerate_from n (xs ++ ys) ≡ enumerate_from n xs ++ enumerate_from (n + length xs) ys
numbers-append n [] ys = ap (λ k. enumerate_from k ys) (omega arith)
numbers-append n (x ∷ xs) ys =
    let e : n + 1 + length xs ≡ n + suc (length xs) = omega arith in
    ap (λ ps. (n, x) ∷ ps) (numbers-append (n + 1) xs ys ∙ ap (λ k. enumerate_from (n + 1) xs ++ enumerate_from k ys) e)

pub given-next : (ds : List Decision) (n : ℕ) (d : Decision) → slice_get ds n ≡ Some d
    → all_given (take (n + 1) ds) ≡ all_given (take n ds) ++ filter_map given_of ((n, d) ∷ [])
given-next ds n d at =
    let within = slice_get_within ds n d at in
    let long : length (take n ds) ≡ n = length-take-le n ds (omega (arith, within)) in
    ap all_given (take_next ds n d at) ∙ ap (filter_map given_of) (numbers-append 0 (take n ds) (d ∷ []))
    ∙ filter_map-append given_of (enumerate_from 0 (take n ds)) (enumerate_from (0 + length (take n ds)) (d ∷ []))
    ∙ ap (λ k. all_given (take n ds) ++ filter_map given_of (enumerate_from k (d ∷ [])))
    (let e : 0 + length (take n ds) ≡ n = omega (arith, long) in e)

one-given : (n : ℕ) (d : Decision) (g : Given) → given_by n d ≡ Some g → filter_map given_of ((n, d) ∷ []) ≡ g ∷ []
one-given n d g e = ap (λ o. cons_option o []) e

none-given : (n : ℕ) (d : Decision) → given_by n d ≡ None → filter_map given_of ((n, d) ∷ []) ≡ []
none-given n d e = ap (λ o. cons_option o []) e

pub given-one-more : (ds : List Decision) (n : ℕ) (d : Decision) (g : Given) (gs : List Given)
    → slice_get ds n ≡ Some d → given_by n d ≡ Some g
    → gs ≡ all_given (take n ds) → gs ++ g ∷ [] ≡ all_given (take (n + 1) ds)
given-one-more ds n d g gs at e so_far =
    ap (λ hs. hs ++ g ∷ []) so_far ∙ ap (λ hs. all_given (take n ds) ++ hs) (sym (one-given n d g e))
    ∙ sym (given-next ds n d at)

pub given-none-more : (ds : List Decision) (n : ℕ) (d : Decision) (gs : List Given) → slice_get ds n ≡ Some d
    → given_by n d ≡ None
    → gs ≡ all_given (take n ds) → gs ≡ all_given (take (n + 1) ds)
given-none-more ds n d gs at e so_far =
    so_far ∙ sym (append-nil (all_given (take n ds)))
    ∙ ap (λ hs. all_given (take n ds) ++ hs) (sym (none-given n d e)) ∙ sym (given-next ds n d at)

-- ---- what is found wrong with the ranks

pub doubled-is : (ds : List Decision) (gs given : List Given) (found : Option (Given × Given))
    → IsPermutation (all_given ds) gs → given ≡ gs
    → IfSome found (λ two. Contains given two.0 × Contains given two.1 × AreDoubled two.0 two.1)
    → IfSome found (λ two. IsGiven ds two.0 × IsGiven ds two.1 × AreDoubled two.0 two.1)
doubled-is ds gs given (Some two) moved same h = (
  given-is ds gs two.0 moved (subst (λ xs. Contains xs two.0) same h.0),
  given-is ds gs two.1 moved (subst (λ xs. Contains xs two.1) same h.1),
  h.2,
)
doubled-is ds gs given None moved same h = h

pub above-is : (ds : List Decision) (gs given : List Given) (found : Option Given) → IsPermutation (all_given ds) gs
    → given ≡ gs
    → IfSome found (λ g. Contains given g × (length given ≤ g.rank))
    → IfSome found (λ g. IsGiven ds g × (length (ranks ds) ≤ g.rank))
above-is ds gs given (Some g) moved same h = (
  given-is ds gs g moved (subst (λ xs. Contains xs g) same h.0),
  subst (λ k. k ≤ g.rank) (ap length same ∙ given-count ds gs moved) h.1,
)
above-is ds gs given None moved same h = h

pub missing-is : (ds : List Decision) (gs given : List Given) (found : Option ℕ) → IsPermutation (all_given ds) gs
    → given ≡ gs
    → IfSome found (λ rank. (rank < length given) × All (λ (g : Given). g.rank ≢ rank) given)
    → IfSome found (λ rank. (rank < length (ranks ds)) × (Contains (ranks ds) rank → ⊥))
missing-is ds gs given (Some rank) moved same h = (
  subst (λ k. rank < k) (ap length same ∙ given-count ds gs moved) h.0,
  λ has. not-given ds gs rank moved (subst (λ xs. All (λ (g : Given). g.rank ≢ rank) xs) same h.1) has,
)
missing-is ds gs given None moved same h = h

-- each decision that commits is among the ranks
abbrev tx_in : Decision → ℕ
tx_in (Commit tx rank) = tx
tx_in _ = 0

abbrev rank_in : Decision → ℕ
rank_in (Commit tx rank) = rank
rank_in _ = 0

given-has : (k : ℕ) (ds : List Decision) (m : ℕ) (g : Given) → IsCommitted ds m g.tx g.rank → g.number ≡ k + m
    → (n : ℕ) × (slice_get (filter_map given_of (enumerate_from k ds)) n ≡ Some g)
given-has k [] m g at e = absurd cc
given-has k (Commit tx rank ∷ ds) zero g at e =
    let same = same_Some (Commit tx rank) (Commit g.tx g.rank) at in
    let number : k ≡ g.number = omega (arith, e) in (
      0,
      ap (λ n. Some (record { rank = rank; tx = tx; number = n })) number
          ∙ ap (λ t. Some (record { rank = rank; tx = t; number = g.number })) (ap tx_in same)
          ∙ ap (λ r. Some (record { rank = r; tx = g.tx; number = g.number })) (ap rank_in same),
    )
given-has k (Commit tx rank ∷ ds) (suc m) g at e = let found = given-has (k + 1) ds m g at (omega (arith, e)) in
    (suc found.0, found.1)
given-has k (Refuse tx walk ∷ ds) zero g at e = absurd cc
given-has k (Refuse tx walk ∷ ds) (suc m) g at e = given-has (k + 1) ds m g at (omega (arith, e))
given-has k (Withdraw tx ∷ ds) zero g at e = absurd cc
given-has k (Withdraw tx ∷ ds) (suc m) g at e = given-has (k + 1) ds m g at (omega (arith, e))

given-among : (ds : List Decision) (gs given : List Given) (g : Given) → IsPermutation (all_given ds) gs → given ≡ gs
    → IsGiven ds g → Contains given g
given-among ds gs given g moved same is =
    let at = given-has 0 ds g.number g is (omega arith) in
    subst (λ xs. Contains xs g) (sym same)
    (Contains-permutation (all_given ds) gs g moved (Contains-from_at (all_given ds) at.0 g at.1))

pub single-is : (ds : List Decision) (gs given : List Given) (found : Option (Given × Given))
    → IsPermutation (all_given ds) gs → given ≡ gs → IfNone found (AreSingle given)
    → IfNone found ((one other : Given) → IsGiven ds one → IsGiven ds other → AreDoubled one other → ⊥)
single-is ds gs given (Some two) moved same h = h
single-is ds gs given None moved same h = λ one other is is' two.
    let number =
    h one other (given-among ds gs given one moved same is) (given-among ds gs given other moved same is')
    two.same in
    let apart = two.apart in
    omega (arith, number, apart)

pub below-is : (ds : List Decision) (gs given : List Given) (found : Option Given) → IsPermutation (all_given ds) gs
    → given ≡ gs
    → IfNone found (All (λ (g : Given). g.rank < length given) given)
    → IfNone found ((g : Given) → IsGiven ds g → g.rank < length (ranks ds))
below-is ds gs given (Some g) moved same h = h
below-is ds gs given None moved same h = λ g is.
    subst (λ k. g.rank < k) (ap length same
    ∙ given-count ds gs moved) (All_in (λ (x : Given). x.rank < length given) given g h
    (given-among ds gs given g moved same is))

has-given : (ds : List Decision) (gs : List Given) (rank : ℕ) → IsPermutation (all_given ds) gs → HasRank gs rank
    → Contains (ranks ds) rank
has-given ds gs rank moved has =
    let at = Contains_at (all_given ds) has.0
    (Contains-permutation gs (all_given ds) has.0 (IsPermutation-sym (all_given ds) gs moved) has.1) in
    Contains-from_at (ranks ds) at.0 rank
    (ap (λ rs. slice_get rs at.0) (sym (given-ranks 0 ds)) ∙ slice_get-map (λ (g : Given). g.rank) (all_given ds) at.0
    ∙ ap (option_map (λ (g : Given). g.rank)) at.1 ∙ ap Some has.2)

pub given-all : (ds : List Decision) (gs given : List Given) (found : Option ℕ) → IsPermutation (all_given ds) gs
    → given ≡ gs
    → IfNone found ((rank : ℕ) → rank < length given → HasRank given rank)
    → IfNone found ((rank : ℕ) → rank < length (ranks ds) → Contains (ranks ds) rank)
given-all ds gs given (Some rank) moved same h = h
given-all ds gs given None moved same h = λ rank less.
    has-given ds gs rank moved
    (subst (λ xs. HasRank xs rank) same
    (h rank (subst (λ k. rank < k) (sym (ap length same ∙ given-count ds gs moved)) less)))

-- ---- the least rank that is not given, up to one more of the ranks, which rise

pub missing-next : (gs : List Given) (i wanted : ℕ) (g : Given) → IsNonDecreasingBy (λ (h : Given). h.rank) gs
    → slice_get gs i ≡ Some g → g.rank ≡ wanted
    → All (λ (h : Given). h.rank ≢ wanted + 1) (take (i + 1) gs)
missing-next gs i wanted g rising at is = All-from_at (λ (h : Given). h.rank ≢ wanted + 1) (take (i + 1) gs) (λ q h at'.
    let front = slice_get-take gs (i + 1) q h at' in
    let le = rising q i g (let less = front.0 in omega (arith, less)) (slice_get_within gs i g at) in
    let one = ap (λ (x : Given). x.rank) (get_or_from_slice_get gs q h g front.1) in
    let own = ap (λ (x : Given). x.rank) (get_or_from_slice_get gs i g g at) in
    λ same. omega (arith, le, one, own, is, same))

pub missing-kept : (gs : List Given) (i wanted : ℕ) (g : Given) → slice_get gs i ≡ Some g → g.rank ≢ wanted
    → All (λ (h : Given). h.rank ≢ wanted) (take i gs) → All (λ (h : Given). h.rank ≢ wanted) (take (i + 1) gs)
missing-kept gs i wanted g at other all = All-next (λ (h : Given). h.rank ≢ wanted) gs i g at other all

pub met-next : (gs : List Given) (i wanted : ℕ) (g : Given) → slice_get gs i ≡ Some g → g.rank ≡ wanted
    → ((rank : ℕ) → rank < wanted → HasRank gs rank) → (rank : ℕ) → rank < wanted + 1 → HasRank gs rank
met-next gs i wanted g at is met rank less =
    elim (cases_order rank wanted) [
      | inl here ↦ (g, Contains-from_at gs i g at, is ∙ sym here)
      | inr (inl below) ↦ met rank below
      | inr (inr above) ↦ absurd (omega (arith, less, above))
    ]

-- ---- of one rank one decision alone, up to one more of the ranks, which rise

rising-at : (gs : List Given) (p q : ℕ) (a b : Given) → IsNonDecreasingBy (λ (h : Given). h.rank) gs → p ≤ q
    → slice_get gs p ≡ Some a → slice_get gs q ≡ Some b → a.rank ≤ b.rank
rising-at gs p q a b rising le at at' =
    let le' = rising p q b le (slice_get_within gs q b at') in
    let one = ap (λ (x : Given). x.rank) (get_or_from_slice_get gs p a b at) in
    let own = ap (λ (x : Given). x.rank) (get_or_from_slice_get gs q b b at') in
    omega (arith, le', one, own)

-- the last of those before
abbrev pub IsLast : List Given → ℕ → Option Given → Type 0
IsLast gs i before = 0 < i → (b : Given) × (before ≡ Some b) × (slice_get gs (i - 1) ≡ Some b)

same-number : (gs : List Given) (i : ℕ) (g : Given) (before : Option Given)
    → IsNonDecreasingBy (λ (h : Given). h.rank) gs → slice_get gs i ≡ Some g → IsLast gs i before
    → ((other : Given) → before ≡ Some other → other.rank ≡ g.rank → other.number ≡ g.number) → AreSingle (take i gs)
    → (h : Given) → Contains (take i gs) h → h.rank ≡ g.rank → h.number ≡ g.number
same-number gs i g before rising at last apart single h has rank =
    let place = Contains_at (take i gs) h has in
    let front = slice_get-take gs i place.0 h place.1 in
    let less = front.0 in
    let b = last (omega (arith, less)) in
    let up = rising-at gs place.0 (i - 1) h b.0 rising (omega (arith, less)) front.1 b.2 in
    let down = rising-at gs (i - 1) i b.0 g rising (omega arith) b.2 at in
    let same : b.0.rank ≡ g.rank = omega (arith, up, down, rank) in
    let number = apart b.0 b.1 same in
    let among =
    Contains-from_at (take i gs) (i - 1) b.0 (slice_get-take_at gs i (i - 1) b.0 (omega (arith, less)) b.2) in
    single h b.0 has among (rank ∙ sym same) ∙ number

pub single-next : (gs : List Given) (i : ℕ) (g : Given) (before : Option Given)
    → IsNonDecreasingBy (λ (h : Given). h.rank) gs → slice_get gs i ≡ Some g → IsLast gs i before
    → ((other : Given) → before ≡ Some other → other.rank ≡ g.rank → other.number ≡ g.number) → AreSingle (take i gs)
    → AreSingle (take (i + 1) gs)
single-next gs i g before rising at last apart single = λ a b has has' rank.
    elim (among a has) [
      | inl early ↦ elim (among b has') [
        | inl early' ↦ single a b early early' rank
        | inr e ↦ same-number gs i g before rising at last apart single a early (rank ∙ ap (λ (x : Given). x.rank) e)
            ∙ ap (λ (x : Given). x.number) (sym e)
      ]
      | inr e ↦ elim (among b has') [
        | inl early' ↦ ap (λ (x : Given). x.number) e
            ∙ sym (same-number gs i g before rising at last apart single b early' (sym rank
            ∙ ap (λ (x : Given). x.rank) e))
        | inr e' ↦ ap (λ (x : Given). x.number) (e ∙ sym e')
      ]
    ]
  where
    among : (h : Given) → Contains (take (i + 1) gs) h → Contains (take i gs) h ⊎ (h ≡ g)
    among h has =
        let place = Contains_at (take (i + 1) gs) h has in
        let front = slice_get-take gs (i + 1) place.0 h place.1 in
        let less = front.0 in
        elim (cases_order place.0 i) [
          | inl here ↦ inr (same_Some h g (sym front.1 ∙ ap (slice_get gs) here ∙ at))
          | inr (inl below) ↦ inl
              (Contains-from_at (take i gs) place.0 h (slice_get-take_at gs i place.0 h below front.1))
          | inr (inr above) ↦ absurd (omega (arith, less, above))
        ]

pub single-none : (gs : List Given) → AreSingle (take 0 gs)
single-none gs = λ a b has has' rank. absurd (let place = Contains_at (take 0 gs) a has in let front =
    slice_get-take gs 0 place.0 a place.1 in let less = front.0 in omega (arith, less))

pub single-all : (gs : List Given) (i : ℕ) → length gs ≤ i → AreSingle (take i gs) → AreSingle gs
single-all gs i most single = subst AreSingle (take_all i gs most) single

-- where the last is below their count, all are
pub below-last : (gs : List Given) (last : Given) → IsNonDecreasingBy (λ (h : Given). h.rank) gs
    → slice_get gs (length gs - 1) ≡ Some last → last.rank < length gs
    → All (λ (g : Given). g.rank < length gs) gs
below-last gs last rising at less = All-from_at (λ (g : Given). g.rank < length gs) gs (λ n g at'.
    let within = slice_get_within gs n g at' in
    let le = rising-at gs n (length gs - 1) g last rising (omega (arith, within)) at' at in
    omega (arith, le, less))

-- where there is none
pub below-none : (gs : List Given) → slice_get gs (length gs - 1) ≡ None → All (λ (g : Given). g.rank < length gs) gs
below-none gs none = All-from_at (λ (g : Given). g.rank < length gs) gs (λ n g at.
    let within = slice_get_within gs n g at in
    let most = slice_get-none gs (length gs - 1) none in
    absurd (omega (arith, within, most)))

-- what was found, or not
pub none-found : (found : Option (Given × Given)) (P : Type 0) → is_some found ≡ false → IfNone found P → P
none-found (Some two) P e h = absurd cc
none-found None P e h = h

pub not-found : (found : Option (Given × Given)) (P : Type 0) → is_some found ≡ true → IfNone found P
not-found (Some two) P e = tt
not-found None P e = absurd cc

pub found-both : (gs : List Given) (found : Option (Given × Given))
    → IfSome found (λ two. Contains gs two.0 × Contains gs two.1) → IfSome found (λ two. AreDoubled two.0 two.1)
    → IfSome found (λ two. Contains gs two.0 × Contains gs two.1 × AreDoubled two.0 two.1)
found-both gs (Some two) both h = (both.0, both.1, h)
found-both gs None both h = tt
