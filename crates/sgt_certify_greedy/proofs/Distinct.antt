-- How many numbers there are where no two are the same.
use Rattle.std.proofs.Common.{◌≡◌, ◌≢◌, ℕ, zero, suc, ◌<◌, ◌≤◌, List, [], ◌∷◌, Some, length, refl, sym, ap, ◌∙◌, subst, arith, inl, inr, All, AllPairs, Contains}
use Rattle.std.specs.Prelude.{slice_get}
use Rattle.std.specs.List.{AllByRecursion}
use Rattle.std.proofs.lemmas.Bool.{cases_eq, cases_order}
use Rattle.std.proofs.lemmas.List.Elements.{recursion_from_All}
use Rattle.sgt_names.proofs.Places.{AllPairs_at, PairsByRecursion, recursion_from_AllPairs}
use Rattle.sgt_certify_greedy.specs.Sorted.{without}
use Rattle.sgt_certify_greedy.proofs.Elements.{without-fewer, without-has}
use Rattle.sgt_names.proofs.Elements.{contains-later}

abbrev pub Apart : ℕ → ℕ → Type 0
Apart a b = a ≢ b

all-without : (x : ℕ) (xs ys : List ℕ) → AllByRecursion (Apart x) xs → AllByRecursion (Contains ys) xs
    → AllByRecursion (Contains (without x ys)) xs
all-without x [] ys apart within = tt
all-without x (z ∷ xs) ys apart within =
    (without-has x ys z within.0 (λ same. apart.0 (sym same)), all-without x xs ys apart.1 within.1)

within-most : (xs ys : List ℕ) → PairsByRecursion Apart xs → AllByRecursion (Contains ys) xs → length xs ≤ length ys
within-most [] ys apart within = omega arith
within-most (x ∷ xs) ys apart within =
    let more = within-most xs (without x ys) apart.1 (all-without x xs ys apart.0 within.1) in
    let fewer = without-fewer x ys within.0 in
    omega (arith, more, fewer)

-- distinct numbers that all stand in a list are no more than it has
pub distinct-within : (xs ys : List ℕ) → AllPairs (λ a b. a ≢ b) xs → All (Contains ys) xs → length xs ≤ length ys
distinct-within xs ys apart within =
    within-most xs ys (recursion_from_AllPairs Apart xs apart) (recursion_from_All (Contains ys) xs within)

numbers_below : ℕ → List ℕ
numbers_below zero = []
numbers_below (suc n) = n ∷ numbers_below n

below-long : (n : ℕ) → length (numbers_below n) ≡ n
unfolding numbers_below
below-long zero = refl
below-long (suc n) = ap suc (below-long n)

below-has : (n t : ℕ) → t < n → Contains (numbers_below n) t
unfolding numbers_below
below-has zero t lt = absurd (omega arith)
below-has (suc n) t lt =
    elim (cases_eq n t) [
      | inl same ↦ (0, omega arith, same)
      | inr other ↦ contains-later n (numbers_below n) t (below-has n t (omega arith))
    ]

-- distinct numbers below n are at most n
pub distinct-below : (n : ℕ) (xs : List ℕ) → AllPairs (λ a b. a ≢ b) xs → All (λ t. t < n) xs → length xs ≤ n
distinct-below n xs apart below =
    let most = distinct-within xs (numbers_below n) apart (λ k d within. below-has n _ (below k d within)) in
    let long = below-long n in
    omega (arith, most, long)

-- each stands at one place
pub one-place : (xs : List ℕ) (p q a : ℕ) → AllPairs (λ a b. a ≢ b) xs → slice_get xs p ≡ Some a
    → slice_get xs q ≡ Some a → p ≡ q
one-place xs p q a apart at_p at_q =
    elim (cases_order p q) [
      | inl same ↦ same
      | inr (inl less) ↦ absurd (AllPairs_at Apart xs p q a a apart less at_p at_q refl)
      | inr (inr more) ↦ absurd (AllPairs_at Apart xs q p a a apart more at_q at_p refl)
    ]
