-- What is found, and what isn't.
use Rattle.std.proofs.Common.{◌≡◌, ◌⊎◌, ◌∙◌, ℕ, List, Option, Some, None, Bool, true, false, inl, inr, refl, sym}
use Rattle.std.proofs.lemmas.Bool.{true≢false}
use Rattle.std.specs.Option.{option_map}
use Rattle.std.specs.Prelude.{IfNone, IfSome, IsTrue, is_some}

-- whether something is found says whether there is one
pub found_iff : {A : Type 0} (o : Option A) (b : Bool) (view : A → List ℕ) (P : List ℕ → Type 0) → b ≡ is_some o
    → IfSome o (λ x. P (view x)) → IfNone o ((f : List ℕ) → P f → ⊥)
    → (IsTrue b → (f : List ℕ) × P f) × (((f : List ℕ) × P f) → IsTrue b)
found_iff (Some x) b view P e some none = (λ yes. (view x, some), λ has. e)
found_iff None b view P e some none = (λ yes. absurd (true≢false (sym yes ∙ e)), λ has. absurd (none has.0 has.1))

pub nothing_mapped : {A B : Type 0} (f : A → B) (o : Option A) (b : Bool) → b ≡ is_some o → b ≡ false
    → option_map f o ≡ None
nothing_mapped f (Some x) b e is_false = absurd (true≢false (sym e ∙ is_false))
nothing_mapped f None b e is_false = refl

-- where the one does not hold, either holds exactly where the other does
pub the_other : (a b : Bool) (S T : Type 0) → a ≡ false → (IsTrue a → S) × (S → IsTrue a)
    → (IsTrue b → T) × (T → IsTrue b) → (IsTrue b → S ⊎ T) × (S ⊎ T → IsTrue b)
the_other a b S T fails one other = (
  λ yes. inr (other.0 yes),
  λ has. elim has [
    | inl s ↦ absurd (true≢false (sym (one.1 s) ∙ fails))
    | inr t ↦ other.1 t
  ],
)
