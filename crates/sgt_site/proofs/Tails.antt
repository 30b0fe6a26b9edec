-- What is found in the end of a list, found in the list.
use Rattle.std.proofs.Common.{◌≡◌, ℕ, ◌+◌, ◌-◌, ◌<◌, ◌≤◌, List, length, get_or, drop, true, false, leb, Some, sym, ap, ◌∙◌, subst, arith, inl, inr, AllPairs}
use Rattle.std.specs.Prelude.{slice_get}
use Rattle.std.specs.List.Sorted.{IsPartitionPoint}
use Rattle.std.specs.Ordering.{nat_cmp}
use Rattle.std.specs.declared.cmp.Ordering.{Ordering}
use Rattle.std.specs.declared.cmp.Ordering.TheVariants.{Less, Greater}
use Rattle.std.proofs.lemmas.Bool.{cases_lt, cases_order}
use Rattle.std.proofs.lemmas.Bool.Decides.{nat_tests}
use Rattle.std.proofs.lemmas.Cmp.{nat_cmp_total}
use Rattle.std.proofs.lemmas.List.{length-drop}
use Rattle.std.proofs.lemmas.Option.{same_Some, slice_get-get_or, get_or_from_slice_get}
use Rattle.sgt_names.specs.Ordered.{IsRisingBy, IsAt, IsGapFor}
use Rattle.sgt_names.proofs.Lists.{element_at}
use Rattle.sgt_names.proofs.Places.{AllPairs_at, AllPairs-from_at, slice_get-drop}
use Rattle.sgt_site.specs.private.Tails.{IsBelow}

-- the end of a list keeps what holds of each and each later one
pub AllPairs-end : {A : Type 0} (R : A → A → Type 0) (xs : List A) (n : ℕ) → AllPairs R xs → AllPairs R (drop n xs)
AllPairs-end R xs n pairs =
    AllPairs-from_at R (drop n xs) (λ p q a b lt at_p at_q. AllPairs_at R xs (n + p) (n + q) a b pairs
    (omega (arith, lt)) (sym (slice_get-drop xs n p) ∙ at_p) (sym (slice_get-drop xs n q) ∙ at_q))

-- an element of the end
in_end : {A : Type 0} (xs : List A) (n m : ℕ) (a : A) → n ≤ m → slice_get xs m ≡ Some a
    → slice_get (drop n xs) (m - n) ≡ Some a
in_end xs n m a le at =
    let same : n + (m - n) ≡ m = omega (arith, le) in
    slice_get-drop xs n (m - n) ∙ ap (slice_get xs) same ∙ at

module _ {A K : Type 0} (key : A → K) (cmp : K → K → Ordering) (xs : List A) (k : K) (from : ℕ)
    (within : from ≤ length xs) where
  pub at-end : (n : ℕ) → IsAt key (drop from xs) k n → IsAt key xs k (from + n)
  at-end n at = record {
    within = let lt = at.within in let long = length-drop from xs in omega (arith, lt, long, within);
    is = λ a here. at.is a (slice_get-drop xs from n ∙ here);
  }

  pub gap-end : (n : ℕ) → IsBelow key cmp xs k from → IsGapFor key cmp (drop from xs) k n
      → IsGapFor key cmp xs k (from + n)
  gap-end n below gap = record {
    within = let le = gap.within in let long = length-drop from xs in omega (arith, le, long, within);
    before = λ m a lt at. elim (cases_lt m from) [
      | inl front ↦ below m a front at
      | inr back ↦ gap.before (m - from) a (omega (arith, lt, back)) (in_end xs from m a back at)
    ];
    after = λ m a le at. gap.after (m - from) a (omega (arith, le)) (in_end xs from m a (omega (arith, le)) at);
  }

-- all before the one in front of the end are below what that one is below
pub below-end : {A : Type 0} (key : A → ℕ) (xs : List A) (k n : ℕ) (a : A) → IsRisingBy key nat_cmp xs → 1 ≤ n
    → n ≤ length xs → a ≡ get_or xs (n - 1) a → key a < k → IsBelow key nat_cmp xs k n
below-end key xs k n a rising some within is lt m b before at =
    let last = element_at xs (n - 1) a (omega (arith, some, within)) is in
    let less : nat_cmp (key a) k ≡ Less = grind (arith, nat_tests) in
    elim (cases_order m (n - 1)) [
      | inl same ↦ subst (λ c. nat_cmp (key c) k ≡ Less) (same_Some a b (sym last ∙ ap (slice_get xs) (sym same)
          ∙ at)) less
      | inr (inl front) ↦ nat_cmp_total.trans (key b) (key a) k
          (AllPairs_at (λ c d. nat_cmp (key c) (key d) ≡ Less) xs m (n - 1) b a rising front at last) less
      | inr (inr back) ↦ absurd (omega (arith, before, back))
    ]

pub below-none : {A : Type 0} (key : A → ℕ) (xs : List A) (k : ℕ) → IsBelow key nat_cmp xs k 0
below-none key xs k m b before at = absurd (omega (arith, before))

-- in front of an element that is above the key is its place, if all before are below it
pub gap-before : {A : Type 0} (key : A → ℕ) (xs : List A) (k n : ℕ) (a : A) → IsRisingBy key nat_cmp xs
    → n < length xs → IsBelow key nat_cmp xs k n → a ≡ get_or xs n a → k < key a → IsGapFor key nat_cmp xs k n
gap-before key xs k n a rising within below is lt = record {
  within = omega (arith, within);
  before = below;
  after = λ m b le at.
      let first = element_at xs n a within is in
      let more : nat_cmp (key a) k ≡ Greater = grind (arith, nat_tests) in
      elim (cases_order n m) [
        | inl same ↦ subst (λ c. nat_cmp (key c) k ≡ Greater) (same_Some a b (sym first ∙ ap (slice_get xs) same
            ∙ at)) more
        | inr (inl front) ↦
            let less = AllPairs_at (λ c d. nat_cmp (key c) (key d) ≡ Less) xs n m a b rising front first at in
            grind (arith, nat_tests)
        | inr (inr back) ↦ absurd (omega (arith, le, back))
      ];
}

-- ---- numbers that don't fall

pub upto-end : {A : Type 0} (key : A → ℕ) (xs : List A) (k n : ℕ) (a : A) → AllPairs (λ a b. key a ≤ key b) xs → 1 ≤ n
    → n ≤ length xs → a ≡ get_or xs (n - 1) a → key a ≤ k
    → (m : ℕ) (b : A) → m < n → slice_get xs m ≡ Some b → key b ≤ k
upto-end key xs k n a sorted some within is le m b before at =
    let last = element_at xs (n - 1) a (omega (arith, some, within)) is in
    elim (cases_lt m (n - 1)) [
      | inl front ↦ let no_more = AllPairs_at (λ c d. key c ≤ key d) xs m (n - 1) b a sorted front at last in
          omega (arith, no_more, le)
      | inr back ↦
          let place : m ≡ n - 1 = omega (arith, before, back) in
          let same : key a ≡ key b = ap key (same_Some a b (sym last ∙ ap (slice_get xs) (sym place) ∙ at)) in
          omega (arith, same, le)
    ]

pub point-end : {A : Type 0} (key : A → ℕ) (xs : List A) (k from n : ℕ) → from ≤ length xs
    → ((m : ℕ) (a : A) → m < from → slice_get xs m ≡ Some a → key a ≤ k)
    → IsPartitionPoint (λ a. leb (key a) k ≡ true) (λ a. leb (key a) k ≡ false) (drop from xs) n
    → n ≤ length (drop from xs)
    → IsPartitionPoint (λ a. leb (key a) k ≡ true) (λ a. leb (key a) k ≡ false) xs (from + n)
point-end key xs k from n within upto point n_within = (
  λ m d lo lt.
      let lt_long = length-drop from xs in
      let at = slice_get-get_or xs m d (omega (arith, lt, n_within, lt_long, within)) in
      elim (cases_lt m from) [
        | inl front ↦ let le = upto m (get_or xs m d) front at in grind (arith, nat_tests)
        | inr back ↦ subst (λ a. leb (key a) k ≡ true)
            (get_or_from_slice_get (drop from xs) (m - from) (get_or xs m d) d
            (in_end xs from m (get_or xs m d) back at)) (point.0 (m - from) d (omega (arith)) (omega (arith, lt, back)))
      ],
  λ m d lo lt.
      let back : from ≤ m = omega (arith, lo) in
      let at = slice_get-get_or xs m d lt in
      let long = length-drop from xs in
      subst (λ a. leb (key a) k ≡ false) (get_or_from_slice_get (drop from xs) (m - from) (get_or xs m d) d
      (in_end xs from m (get_or xs m d) back at))
      (point.1 (m - from) d (omega (arith, lo)) (omega (arith, lt, back, long, within))),
)
