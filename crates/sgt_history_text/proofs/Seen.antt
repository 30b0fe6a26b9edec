-- Values of which it is seen whether they are operations.
use Rattle.std.proofs.Common.{◌≡◌, Bool, true, List, ◌∷◌, ◌++◌, Option, Some, None, refl, sym, ap, ◌∙◌}
use Rattle.std.specs.Prelude.{MatchOption}
use Rattle.json.specs.Json.{Json}
use Rattle.json.specs.Token.{Token, begin_object}
use Rattle.json.specs.Tree.{json_tokens}
use Rattle.json.specs.Value.{value_view}
use Rattle.json.specs.declared.value.Value.{Value}
use Rattle.sgt_history_text.specs.Shallow.{Closes, IsFront, IsScalar, IsSeenAs, NoValue, ReadsAs, arrays, empty, leaf}
use Rattle.sgt_history_text.proofs.Fronts.{found_object}
use Rattle.sgt_history_text.proofs.Solid.{arrays_fixed, seen_from}

module _ {A : Type 0} (old mid new : List Token) where
  read-seen : (found : Option (Value A)) → MatchOption found (NoValue old) (λ v. ReadsAs (arrays leaf) old (value_view v) new)
      → MatchOption found (NoValue old)
      (λ v. (j : Json) × (old ≡ json_tokens j ++ new) × IsSeenAs j (value_view v))
  read-seen None none = none
  read-seen (Some v) (j, e, is) = (j, e, seen_from j (value_view v) is)

  pub row_object : old ≡ begin_object ∷ mid → (found : Option (Value A))
      → MatchOption found ((rest : List Token) → Closes true mid rest → ⊥)
      (λ v. Closes true mid new × (value_view v ≡ empty true))
      → MatchOption found (NoValue old)
      (λ v. (j : Json) × (old ≡ json_tokens j ++ new) × IsSeenAs j (value_view v))
  row_object e found h = read-seen found (found_object old mid new (arrays leaf) (λ ms. refl) e found h)

pub row_scalar : {A : Type 0} (old new : List Token) (v : Value A)
    → (old ≡ json_tokens (value_view v) ++ new) × IsScalar (value_view v)
    → (j : Json) × (old ≡ json_tokens j ++ new) × IsSeenAs j (value_view v)
row_scalar old new v (e, s) =
    (value_view v, e, seen_from (value_view v) (value_view v) (sym (arrays_fixed leaf (value_view v) s)))

-- a value that was read stands in front
pub front_read : (f : Json → Json) (old new : List Token) (v : Json) → ReadsAs f old v new → IsFront old new
front_read f old new v (j, e, is) = (j, e)
