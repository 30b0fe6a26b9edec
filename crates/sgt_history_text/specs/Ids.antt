-- Where an id stands among those of a history's lines.
use Rattle.std.specs.Prelude.{◌≡◌, ℕ, List, map, All, Option, Some, None, slice_get}
use Rattle.json.specs.Json.{Json}
use Rattle.json.specs.Token as spec
use Rattle.sgt_history.specs.Serial.{StandOnce}
use Rattle.sgt_history_text.specs.Line.{IsTextOf}
use Rattle.sgt_history_text.specs.Name.{IsId, compact}

-- the texts are those of these ids, of which no two are equal
pub record AreIds (texts : List (List ℕ)) (ids : List Json) : Type 0 where
  pub texts_are : texts ≡ map compact ids
  pub once : StandOnce ids
  pub each : All IsId ids

-- the line is a text of the id with this number, in whatever layout; or of none
abbrev pub IsFoundAs : List Json → List ℕ → Option ℕ → Type 0
IsFoundAs ids line None = (number : ℕ) (id : Json) → slice_get ids number ≡ Some id → IsTextOf line id → ⊥
IsFoundAs ids line (Some number) = (id : Json) × (slice_get ids number ≡ Some id) × IsTextOf line id

-- the token is no string and no number
abbrev pub IsNoKey : spec.Token → Type 0
IsNoKey spec.begin_object = Unit {0}
IsNoKey spec.end_object = Unit {0}
IsNoKey spec.begin_array = Unit {0}
IsNoKey spec.end_array = Unit {0}
IsNoKey (spec.key s) = Unit {0}
IsNoKey (spec.string s) = ⊥
IsNoKey (spec.number s) = ⊥
IsNoKey (spec.boolean b) = Unit {0}
IsNoKey spec.null = Unit {0}
IsNoKey spec.bad = Unit {0}
