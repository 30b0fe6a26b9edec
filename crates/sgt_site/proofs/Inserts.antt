-- An element put into a list, or in the place of another.
use Rattle.std.proofs.Common.{◌≡◌, ℕ, zero, suc, ◌⊎◌, inl, inr, List, [], ◌∷◌, ◌<◌, ◌≤◌, length, get_or, set, leb, true, false, Some, refl, sym, ap, subst, arith, AllPairs, Contains}
use Rattle.std.specs.Prelude.{slice_get, ◌↔◌}
use Rattle.std.specs.List.{insert, AllByRecursion}
use Rattle.std.specs.List.Sorted.{IsNonDecreasingBy, IsPartitionPoint}
use Rattle.std.proofs.lemmas.Bool.{cases_lt, leb-true, leb-false}
use Rattle.std.proofs.lemmas.Option.{get_or_from_slice_get, same_Some, slice_get_within}
use Rattle.sgt_names.proofs.Places.{Contains_at, Contains-from_at, PairsByRecursion, AllPairs-from_recursion, recursion_from_AllPairs}

module _ {A : Type 0} where
  pub Contains-later : (x : A) (xs : List A) (a : A) → Contains xs a → Contains (x ∷ xs) a
  Contains-later x xs a has = let at = Contains_at xs a has in Contains-from_at (x ∷ xs) (suc at.0) a at.1

  insert_at : (xs : List A) (n : ℕ) (y : A) (k : ℕ) (a : A) → slice_get (insert xs n y) k ≡ Some a
      → (a ≡ y) ⊎ Contains xs a
  insert_at xs zero y zero a h = inl (sym (same_Some y a h))
  insert_at xs zero y (suc k) a h = inr (Contains-from_at xs k a h)
  insert_at [] (suc n) y zero a h = inl (sym (same_Some y a h))
  insert_at [] (suc n) y (suc k) a h = absurd cc
  insert_at (x ∷ xs) (suc n) y zero a h = inr (Contains-from_at (x ∷ xs) 0 a h)
  insert_at (x ∷ xs) (suc n) y (suc k) a h = later (insert_at xs n y k a h)
    where
      later : (a ≡ y) ⊎ Contains xs a → (a ≡ y) ⊎ Contains (x ∷ xs) a
      later (inl same) = inl same
      later (inr has) = inr (Contains-later x xs a has)

  at_new : (xs : List A) (n : ℕ) (y : A) → Contains (insert xs n y) y
  at_new xs zero y = Contains-from_at (y ∷ xs) 0 y refl
  at_new [] (suc n) y = Contains-from_at (y ∷ []) 0 y refl
  at_new (x ∷ xs) (suc n) y = Contains-later x (insert xs n y) y (at_new xs n y)

  at_old : (xs : List A) (n : ℕ) (y : A) (k : ℕ) (a : A) → slice_get xs k ≡ Some a → Contains (insert xs n y) a
  at_old xs zero y k a h = Contains-from_at (y ∷ xs) (suc k) a h
  at_old [] (suc n) y k a h = absurd cc
  at_old (x ∷ xs) (suc n) y zero a h = Contains-from_at (x ∷ insert xs n y) 0 a h
  at_old (x ∷ xs) (suc n) y (suc k) a h = Contains-later x (insert xs n y) a (at_old xs n y k a h)

  -- what is in it afterwards
  pub Contains-insert : (xs : List A) (n : ℕ) (y a : A) → Contains (insert xs n y) a ↔ ((a ≡ y) ⊎ Contains xs a)
  Contains-insert xs n y a = (
    λ has. let at = Contains_at (insert xs n y) a has in insert_at xs n y at.0 a at.1,
    λ which. by_side which,
  )
    where
      by_side : (a ≡ y) ⊎ Contains xs a → Contains (insert xs n y) a
      by_side (inl same) = subst (Contains (insert xs n y)) (sym same) (at_new xs n y)
      by_side (inr has) = let at = Contains_at xs a has in at_old xs n y at.0 a at.1

  all-insert : (P : A → Type 0) (xs : List A) (n : ℕ) (y : A) → P y → AllByRecursion P xs
      → AllByRecursion P (insert xs n y)
  all-insert P xs zero y p all = (p, all)
  all-insert P [] (suc n) y p all = (p, tt)
  all-insert P (x ∷ xs) (suc n) y p all = (all.0, all-insert P xs n y p all.1)

  all-from_at : (P : A → Type 0) (xs : List A) → ((m : ℕ) (a : A) → slice_get xs m ≡ Some a → P a) → AllByRecursion P xs
  all-from_at P [] h = tt
  all-from_at P (x ∷ xs) h = (h 0 x refl, all-from_at P xs (λ m a at. h (suc m) a at))

  pairs-insert : (R : A → A → Type 0) (xs : List A) (n : ℕ) (y : A)
      → ((m : ℕ) (a : A) → m < n → slice_get xs m ≡ Some a → R a y)
      → ((m : ℕ) (a : A) → n ≤ m → slice_get xs m ≡ Some a → R y a) → PairsByRecursion R xs
      → PairsByRecursion R (insert xs n y)
  pairs-insert R xs zero y before after pairs = (all-from_at (R y) xs (λ m a at. after m a (omega arith) at), pairs)
  pairs-insert R [] (suc n) y before after pairs = (tt, tt)
  pairs-insert R (x ∷ xs) (suc n) y before after pairs = (
    all-insert (R x) xs n y (before 0 x (omega arith) refl) pairs.0,
    pairs-insert R xs n y (λ m a lt at. before (suc m) a (omega arith) at)
        (λ m a le at. after (suc m) a (omega arith) at) pairs.1,
  )

  -- and what holds of each and each later one
  pub AllPairs-insert : (R : A → A → Type 0) (xs : List A) (n : ℕ) (y : A)
      → ((m : ℕ) (a : A) → m < n → slice_get xs m ≡ Some a → R a y)
      → ((m : ℕ) (a : A) → n ≤ m → slice_get xs m ≡ Some a → R y a) → AllPairs R xs → AllPairs R (insert xs n y)
  AllPairs-insert R xs n y before after pairs =
      AllPairs-from_recursion R (insert xs n y)
      (pairs-insert R xs n y before after (recursion_from_AllPairs R xs pairs))

  -- so an order by a number is kept where the element goes behind all that have its number or a smaller one
  pub nondecreasing : (n : A → ℕ) (xs : List A) → AllPairs (λ a b. n a ≤ n b) xs → IsNonDecreasingBy n xs
  nondecreasing n xs pairs i j d le lt = elim (cases_lt i j) [
    | inl less ↦ pairs i j d less lt
    | inr more ↦
        let same : i ≡ j = omega (arith, le, more) in
        let e : n (get_or xs i d) ≡ n (get_or xs j d) = ap (λ k. n (get_or xs k d)) same in
        omega (arith, e)
  ]

  pub point-insert : (n : A → ℕ) (xs : List A) (i : ℕ) (y : A)
      → IsPartitionPoint (λ a. leb (n a) (n y) ≡ true) (λ a. leb (n a) (n y) ≡ false) xs i
      → AllPairs (λ a b. n a ≤ n b) xs → AllPairs (λ a b. n a ≤ n b) (insert xs i y)
  point-insert n xs i y point pairs = AllPairs-insert (λ a b. n a ≤ n b) xs i y
      (λ m a lt at. leb-true (n a) (n y) (subst (λ b. leb (n b) (n y) ≡ true) (get_or_from_slice_get xs m a a at)
      (point.0 m a (omega arith) lt)))
      (λ m a le at. let more =
      leb-false (n a) (n y) (subst (λ b. leb (n b) (n y) ≡ false) (get_or_from_slice_get xs m a a at)
      (point.1 m a le (slice_get_within xs m a at))) in omega (arith, more))
      pairs

  -- what is at a place after another element was put there, or elsewhere
  pub get_set_same : (xs : List A) (n : ℕ) (y : A) → n < length xs → slice_get (set xs n y) n ≡ Some y
  get_set_same [] n y lt = absurd (omega arith)
  get_set_same (x ∷ xs) zero y lt = refl
  get_set_same (x ∷ xs) (suc n) y lt = get_set_same xs n y (omega arith)

  pub get_set_other : (xs : List A) (n k : ℕ) (y : A) → (k ≡ n → ⊥) → slice_get (set xs n y) k ≡ slice_get xs k
  get_set_other [] n k y apart = refl
  get_set_other (x ∷ xs) zero zero y apart = absurd (apart refl)
  get_set_other (x ∷ xs) zero (suc k) y apart = refl
  get_set_other (x ∷ xs) (suc n) zero y apart = refl
  get_set_other (x ∷ xs) (suc n) (suc k) y apart = get_set_other xs n k y (λ same. apart (ap suc same))
