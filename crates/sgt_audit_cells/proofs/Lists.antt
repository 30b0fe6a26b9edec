-- A list with one element in place of another.
use Rattle.std.proofs.Common.{◌≡◌, ℕ, zero, suc, ◌<◌, List, [], ◌∷◌, length, Some, refl, sym, ap, set, arith}
use Rattle.std.specs.Prelude.{slice_get}
use Rattle.std.proofs.lemmas.Option.{none-some, same_Some}

module _ {A : Type 0} where
  pub set-at : (xs : List A) (n : ℕ) (v a : A) → slice_get xs n ≡ Some a → slice_get (set xs n v) n ≡ Some v
  set-at [] n v a h = absurd (none-some a h)
  set-at (x ∷ xs) zero v a h = refl
  set-at (x ∷ xs) (suc n) v a h = set-at xs n v a h

  pub set-other : (xs : List A) (n k : ℕ) (v : A) → (k ≡ n → ⊥) → slice_get (set xs n v) k ≡ slice_get xs k
  set-other [] n k v apart = refl
  set-other (x ∷ xs) zero zero v apart = absurd (apart refl)
  set-other (x ∷ xs) zero (suc k) v apart = refl
  set-other (x ∷ xs) (suc n) zero v apart = refl
  set-other (x ∷ xs) (suc n) (suc k) v apart = set-other xs n k v (λ e. apart (ap suc e))

  pub some-at : (xs : List A) (n : ℕ) → n < length xs → (a : A) × (slice_get xs n ≡ Some a)
  some-at [] n lt = absurd (omega (arith, lt))
  some-at (x ∷ xs) zero lt = (x, refl)
  some-at (x ∷ xs) (suc n) lt = some-at xs n (omega (arith, lt))

  pub set-same : (xs : List A) (n : ℕ) (a : A) → slice_get xs n ≡ Some a → set xs n a ≡ xs
  set-same [] n a h = refl
  set-same (x ∷ xs) zero a h = ap (λ y. y ∷ xs) (sym (same_Some x a h))
  set-same (x ∷ xs) (suc n) a h = ap (λ ys. x ∷ ys) (set-same xs n a h)
