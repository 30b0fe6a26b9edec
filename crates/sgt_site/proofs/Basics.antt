-- Names told apart, and lists of one.
use Rattle.std.proofs.Common.{◌≡◌, ℕ, zero, suc, false, [], ◌∷◌, Some, sym, subst, inl, inr, Contains}
use Rattle.std.specs.Prelude.{slice_get}
use Rattle.std.specs.Ordering.{nat_cmp}
use Rattle.std.specs.Str.{bytes_eq}
use Rattle.std.specs.Cmp.Lexicographic.{slice_cmp}
use Rattle.std.specs.declared.cmp.Ordering.TheVariants.{Less, Equal}
use Rattle.std.proofs.lemmas.Bool.{cases_Bool}
use Rattle.std.proofs.lemmas.Cmp.{nat_list_cmp_total, tied_itself}
use Rattle.std.proofs.lemmas.Option.{same_Some}
use Rattle.std.proofs.lemmas.Slice.Eq.{bytes_eq-Decides}
use Rattle.sgt_names.specs.Name.{Name}
use Rattle.sgt_names.proofs.Places.{Contains_at}
use Rattle.sgt_names.proofs.Elements.{bytes_eq-other}

-- a smaller name is another
pub less_apart : (x y : Name) → slice_cmp nat_cmp x y ≡ Less → x ≡ y → ⊥
less_apart x y less same =
    absurd (let tied : slice_cmp nat_cmp x y ≡ Equal =
    subst (λ z. slice_cmp nat_cmp x z ≡ Equal) same (tied_itself nat_list_cmp_total x) in cc)

-- all that a list of one has
pub is_single : {A : Type 0} (a b : A) → Contains (a ∷ []) b → b ≡ a
is_single a b has = let at = Contains_at (a ∷ []) b has in first at.0 at.1
  where
    first : (n : ℕ) → slice_get (a ∷ []) n ≡ Some b → b ≡ a
    first zero h = sym (same_Some a b h)
    first (suc n) h = absurd cc
