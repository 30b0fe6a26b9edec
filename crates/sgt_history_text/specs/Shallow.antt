-- Values of JSON that are read to some depth: what nests deeper stands as an empty array or object.
use Rattle.std.specs.Prelude.{◌≡◌, ◌↔◌, ◌⊎◌, ◌<◌, Bool, true, false, List, [], ◌∷◌, ◌++◌, length, Option, Some, None}
use Rattle.json.specs.Json.{Json, null, boolean, number, string, array, object, Items, no_items, item, Members, no_members}
use Rattle.json.specs.Token.{Token, begin_object, begin_array}
use Rattle.json.specs.Tree.{json_tokens, items_tokens, members_tokens}
use Rattle.json.specs.Value.{value_view}
use Rattle.sgt_history.specs.declared.history.Operation.{Operation}
use Rattle.sgt_history_text.specs.Line.{IsOperation, operation_json}
use Rattle.sgt_history_text.specs.declared.shallow.First.{First}
use Rattle.sgt_history_text.specs.declared.shallow.First.TheVariants.{Object, Array, Scalar}

-- ---- what is left out

abbrev pub empty : Bool → Json
empty true = object no_members
empty false = array no_items

abbrev pub leaf : Json → Json
leaf null = null
leaf (boolean b) = boolean b
leaf (number s) = number s
leaf (string s) = string s
leaf (array js) = empty false
leaf (object ms) = empty true

abbrev pub map_items : (Json → Json) → Items → Items
map_items f no_items = no_items
map_items f (item j js) = item (f j) (map_items f js)

abbrev pub arrays : (Json → Json) → Json → Json
arrays f null = null
arrays f (boolean b) = boolean b
arrays f (number s) = number s
arrays f (string s) = string s
arrays f (array js) = array (map_items f js)
arrays f (object ms) = empty true

-- neither an array nor an object
abbrev pub IsScalar : Json → Type 0
IsScalar null = Unit {0}
IsScalar (boolean b) = Unit {0}
IsScalar (number s) = Unit {0}
IsScalar (string s) = Unit {0}
IsScalar (array js) = ⊥
IsScalar (object ms) = ⊥

-- ---- tokens

-- a value stands in front
abbrev pub IsFront : List Token → List Token → Type 0
IsFront ts rest = (j : Json) × (ts ≡ json_tokens j ++ rest)

abbrev pub NoValue : List Token → Type 0
NoValue ts = (rest : List Token) → IsFront ts rest → ⊥

-- a value stands in front, and was read as that
abbrev pub ReadsAs : (Json → Json) → List Token → Json → List Token → Type 0
ReadsAs f old v new = (j : Json) × (old ≡ json_tokens j ++ new) × (v ≡ f j)

-- what is open, an object or an array, is closed there, with what stands in it
abbrev pub Closes : Bool → List Token → List Token → Type 0
Closes true ts rest = (ms : Members) × (ts ≡ members_tokens ms ++ rest)
Closes false ts rest = (js : Items) × (ts ≡ items_tokens js ++ rest)

-- a value, and then it is closed
abbrev pub AfterValue : Bool → List Token → List Token → Type 0
AfterValue b ts rest = (mid : List Token) × IsFront ts mid × Closes b mid rest

abbrev pub Enters : Bool → (old new : List Token) → Option Bool → Type 0
Enters b old new None = (rest : List Token) → Closes b old rest → ⊥
Enters b old new (Some true) = (rest : List Token) → Closes b old rest ↔ (new ≡ rest)
Enters b old new (Some false) = (rest : List Token) → Closes b old rest ↔ AfterValue b new rest

abbrev pub IsFirst : List Token → Option First → List Token → Type 0
IsFirst old None new = NoValue old
IsFirst old (Some Object) new = old ≡ begin_object ∷ new
IsFirst old (Some Array) new = old ≡ begin_array ∷ new
IsFirst old (Some (Scalar v)) new = (old ≡ json_tokens (value_view v) ++ new) × IsScalar (value_view v)

abbrev pub bracket : Bool → Token
bracket true = begin_object
bracket false = begin_array

abbrev pub IsOpened : List Token → Option (Option Bool) → List Token → Type 0
IsOpened old None new = NoValue old
IsOpened old (Some None) new = (j : Json) × (old ≡ json_tokens j ++ new) × IsScalar j
IsOpened old (Some (Some b)) new = old ≡ bracket b ∷ new

-- ---- operations

-- it is an operation exactly where what was read of it is
abbrev pub IsSeenAs : Json → Json → Type 0
IsSeenAs j v = (o : Operation Json Json) → IsOperation o → (j ≡ operation_json o) ↔ (v ≡ operation_json o)

-- an element more was kept; or more were than an operation has
abbrev pub IsPartKept : {A : Type 0} → List A → A → List A → Type 0
IsPartKept old v new = (new ≡ old ++ v ∷ []) ⊎ ((4 < length old) × (new ≡ old))
