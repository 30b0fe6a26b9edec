-- Words of which one asks for help.
use Rattle.std.proofs.Common.{◌≡◌, ◌<◌, ℕ, zero, suc, List, [], ◌∷◌, Any, length, refl, sym, subst, arith}

module _ {A : Type 0} (P : A → Type 0) (w : A) (ws : List A) where
  any_later : Any P ws → Any P (w ∷ ws)
  any_later (k, x, within, at, holds) = (suc k, x, omega (arith, within), at, holds)

  any_behind : (P w → ⊥) → Any P (w ∷ ws) → Any P ws
  any_behind other (zero, x, within, at, holds) = absurd (other (subst P (sym at) holds))
  any_behind other (suc k, x, within, at, holds) = (k, x, omega (arith, within), at, holds)

  -- where the first does not, one of the others does
  pub of_the_others : (xs : List A) (S : Type 0) → xs ≡ w ∷ ws → (P w → ⊥) → (S → Any P ws) × (Any P ws → S)
      → (S → Any P xs) × (Any P xs → S)
  of_the_others xs S e other both =
      (λ some. subst (Any P) (sym e) (any_later (both.0 some)), λ has. both.1 (any_behind other (subst (Any P) e has)))
