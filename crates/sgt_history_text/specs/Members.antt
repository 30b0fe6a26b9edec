-- The members of a line's object, and its operations, which are put as soon as they are read.
use Rattle.std.specs.Prelude.{◌≡◌, ◌||◌, ℕ, Bool, true, false, cond, List, [], ◌∷◌, ◌++◌, Option, Some, None, option_map, All, map, codes}
use Rattle.std.specs.Str.{bytes_eq}
use Rattle.json.specs.Find.{get, get_member}
use Rattle.json.specs.Json.{Json, array, Members}
use Rattle.json.specs.Token.{Token}
use Rattle.json.specs.Tree.{json_tokens}
use Rattle.json.specs.Value.{items_of, members_view, value_view}
use Rattle.sgt_history.specs.Transaction.{Transaction}
use Rattle.sgt_history.specs.declared.history.Operation.{Operation}
use Rattle.sgt_history_text.specs.Built.{IsBuilt}
use Rattle.sgt_history_text.specs.Line.{IsOperation, operation_json}
use Rattle.sgt_history_text.specs.Shallow.{leaf}
use Rattle.sgt_history_text.specs.declared.building.Builder.{Builder}
use Rattle.sgt_history_text.specs.declared.members.Found.{Found}
use Rattle.sgt_history_text.specs.declared.members.Object.{Object}

-- ---- operations

abbrev pub IsNoOperation : Json → Type 0
IsNoOperation j = (o : Operation Json Json) → IsOperation o → j ≡ operation_json o → ⊥

-- all that was read stays
abbrev pub Stays : (old new : Builder) → Type 0
Stays b b' = (ids : List Json) (h : List (Transaction Json Json)) (begun : List (Operation Json Json))
    → IsBuilt b ids h begun → IsBuilt b' ids h begun

-- the value is an operation, which was put; or it is none
abbrev pub IsPut : (old new : Builder) → Json → Bool → Type 0
IsPut b b' j true = (o : Operation Json Json) × IsOperation o × (j ≡ operation_json o)
    × ((ids : List Json) (h : List (Transaction Json Json)) (begun : List (Operation Json Json))
    → IsBuilt b ids h begun → IsBuilt b' ids h (begun ++ o ∷ []))
IsPut b b' j false = IsNoOperation j × Stays b b'

-- so it is where all before are operations; where one isn't, nothing is put
abbrev pub IsPutNext : Bool → (old new : Builder) → Json → Bool → Type 0
IsPutNext true b b' j is = IsPut b b' j is
IsPutNext false b b' j true = ⊥
IsPutNext false b b' j false = Stays b b'

-- the value is an array of these operations; or it is there and is none of any, or isn't there
abbrev pub AreOperations : Option Json → Bool → List (Operation Json Json) → Type 0
AreOperations value true put = (value ≡ Some (array (items_of (map operation_json put)))) × All IsOperation put
AreOperations value false put =
    (os : List (Operation Json Json)) → All IsOperation os → value ≡ Some (array (items_of (map operation_json os))) → ⊥

-- they were put behind the lines that were read
abbrev pub ArePutFor : List Json → List (Transaction Json Json) → Option Json → Bool → Builder → Type 0
ArePutFor ids h value are b = (put : List (Operation Json Json)) × IsBuilt b ids h put × AreOperations value are put

-- where none were before
abbrev pub Puts : (old new : Builder) → Option Json → Bool → Type 0
Puts b b' value are = (ids : List Json) (h : List (Transaction Json Json)) → IsBuilt b ids h []
    → ArePutFor ids h value are b'

-- in place of those before
abbrev pub Replaces : (old new : Builder) → Option Json → Bool → Type 0
Replaces b b' value are = (ids : List Json) (h : List (Transaction Json Json)) (begun : List (Operation Json Json))
    → IsBuilt b ids h begun → ArePutFor ids h value are b'

-- ---- members

-- the names of the members that say something of a transaction besides its operations, of when it ran, of its session
abbrev pub is_told : List ℕ → Bool
is_told name = bytes_eq name (codes "tx") || bytes_eq name (codes "end") || bytes_eq name (codes "begin")
    || bytes_eq name (codes "done") || bytes_eq name (codes "session")

-- the value has the last of the members of each such name, as deep as it is read
abbrev pub HasMembers : Members → Json → Type 0
HasMembers ms v = (name : List ℕ) → is_told name ≡ true → get name v ≡ option_map leaf (get_member name ms)

-- the last of the members "ops"
abbrev pub operations_in : Members → Option Json
operations_in ms = get_member (codes "ops") ms

-- one more member stands behind them
abbrev pub get_with : Members → (name : List ℕ) → Json → (other : List ℕ) → Option Json
get_with ms name j other = cond (bytes_eq name other) (Some j) (get_member other ms)

-- a member's value was read, and is kept, if its name is told
pub record IsToldTaken (old new : List Token) (name : List ℕ) (before after : Members) : Type 0 where
  pub j : Json
  pub text : old ≡ json_tokens j ++ new
  pub kept : (other : List ℕ) → is_told other ≡ true
      → get_member other after ≡ get_with before name (leaf j) other

-- so it is; or it is the value of a member "ops", whose operations were put in place of those before
pub record IsMemberTaken (old new : List Token) (name : List ℕ) (before after : Found) (b b' : Builder) : Type 0 where
  pub j : Json
  pub text : old ≡ json_tokens j ++ new
  pub kept : (other : List ℕ) → is_told other ≡ true → get_member other (members_view after.members.items)
      ≡ get_with (members_view before.members.items) name (leaf j) other
  pub put : (value : Option Json) (ids : List Json) (h : List (Transaction Json Json)) → ArePutFor ids h value before.operations b
      → ArePutFor ids h (cond (bytes_eq name (codes "ops")) (Some j) value) after.operations b'

-- the object has the last of these members of each such name, and the operations of the last "ops" were put
pub record IsReadFrom (b b' : Builder) (ms : Members) (o : Object) : Type 0 where
  pub has : HasMembers ms (value_view o.members)
  pub put : Puts b b' (operations_in ms) o.operations
