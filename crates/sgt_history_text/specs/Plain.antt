-- Lines in the plain layout: `tx`, `end` and `ops` in this order and no other member, a space behind a comma or a colon
-- or none, no escape but the shortest ones in values.
use Rattle.std.specs.Prelude.{◌≡◌, ℕ, ◌≤◌, Bool, true, false, List, [], ◌∷◌, ◌++◌, All, Option, Some, None, IfSome, codes, flat_map, map}
use Rattle.std.specs.Borrow.{Bor}
use Rattle.json.specs.Json.{Json}
use Rattle.json.specs.Token.{Token}
use Rattle.json.specs.Token as token
use Rattle.json.specs.Tree.{items_tokens, json_tokens}
use Rattle.json.specs.Value.{items_of}
use Rattle.sgt_history.specs.Transaction.{Transaction}
use Rattle.sgt_history.specs.declared.history.Kind.{Kind}
use Rattle.sgt_history.specs.declared.history.Operation.{Operation}
use Rattle.sgt_history_text.specs.Built.{IsAdded, IsBuilt}
use Rattle.sgt_history_text.specs.Line.{IsLine, IsOperation, end_word, kind_word, operation_json}
use Rattle.sgt_history_text.specs.Name.{IsId, IsValue, compact}
use Rattle.sgt_history_text.specs.Written.{AreWritten, IsLead, ended_by}
use Rattle.sgt_history_text.specs.declared.building.Builder.{Builder}

-- the byte stands for itself in a string
abbrev pub IsBare : ℕ → Type 0
IsBare x = (32 ≤ x) × (x ≡ 34 → ⊥) × (x ≡ 92 → ⊥)

-- the text is the compact one of such a value
pub record IsCompactOf (Is : Json → Type 0) (text : List ℕ) : Type 0 where
  pub value : Json
  pub is : Is value
  pub text_is : text ≡ compact value

-- an operation whose item and value are texts
abbrev pub TextOperation : Type 0
TextOperation = Operation (Bor (List ℕ)) (Bor (List ℕ))

-- `["r"`
abbrev pub kind_text : Kind → List ℕ
kind_text kind = 91 ∷ 34 ∷ (kind_word kind ++ 34 ∷ [])

-- `"commit"`
abbrev pub end_text : Bool → List ℕ
end_text commits = 34 ∷ (end_word commits ++ 34 ∷ [])

-- ---- their tokens

-- the tokens of a value, if one is given
abbrev pub given_tokens : Option Json → List Token
given_tokens None = []
given_tokens (Some j) = json_tokens j

-- the tokens of operations, without the brackets around all
abbrev pub operation_tokens : List (Operation Json Json) → List Token
operation_tokens ps = flat_map (λ p. json_tokens (operation_json p)) ps

-- the same with the closing bracket
abbrev pub operations_tokens : List (Operation Json Json) → List Token
operations_tokens ps = items_tokens (items_of (map operation_json ps))

-- from the member "end" to the opening bracket of the operations
abbrev pub end_tokens : Bool → List Token
end_tokens commits =
    token.key (codes "end") ∷ token.string (end_word commits) ∷ token.key (codes "ops") ∷ token.begin_array ∷ []

-- what stands in front of the operations
abbrev pub head_tokens : Json → Bool → List Token
head_tokens id commits = token.begin_object ∷ token.key (codes "tx") ∷ (json_tokens id ++ end_tokens commits)

-- ---- what they are

-- the value that is given
abbrev pub MeansValue : Option (Bor (List ℕ)) → Option Json → Type 0
MeansValue None None = Unit {0}
MeansValue None (Some j) = ⊥
MeansValue (Some v) None = ⊥
MeansValue (Some v) (Some j) = v.now ≡ compact j

-- the operation is this one, whose item and value are written so
pub record Means (o : TextOperation) (p : Operation Json Json) : Type 0 where
  pub version_is : o.version ≡ p.version
  pub kind_is : o.kind ≡ p.kind
  pub item_is : o.item.now ≡ compact p.item
  pub value_is : MeansValue o.value p.value
  pub is : IsOperation p

abbrev pub IsPlain : TextOperation → Type 0
IsPlain o = (p : Operation Json Json) × Means o p

-- ---- where they stand

-- the given value stands there, or none is given
pub record IsGivenAt (bytes : List ℕ) (from : ℕ) (given : Option (Bor (List ℕ))) (to : ℕ) : Type 0 where
  pub value : Option Json
  pub is : IfSome value IsValue
  pub means : MeansValue given value
  pub text : AreWritten bytes from true (given_tokens value) to

-- the operation stands there
pub record IsOperationAt (bytes : List ℕ) (from : ℕ) (o : TextOperation) (to : ℕ) : Type 0 where
  pub operation : Operation Json Json
  pub means : Means o operation
  pub text : AreWritten bytes from false (json_tokens (operation_json operation)) to

-- the front of the line ends there, with this id and end
pub record IsHeadAt (line id : List ℕ) (commits : Bool) (to : ℕ) : Type 0 where
  pub name : Json
  pub is : IsId name
  pub text_is : id ≡ compact name
  pub text : AreWritten line 0 false (head_tokens name commits) to

-- ---- what is kept of them

-- behind the lines that were read these operations were put, which stand up to a place in front of the next
pub record ArePutBefore (ids : List Json) (h : List (Transaction Json Json)) (bytes : List ℕ) (from to : ℕ)
    (b : Builder) : Type 0 where
  pub ps : List (Operation Json Json)
  pub each : All IsOperation ps
  pub place : ℕ
  pub text : AreWritten bytes from false (operation_tokens ps) place
  pub lead : IsLead bytes place (ended_by false (operation_tokens ps)) to
  pub built : IsBuilt b ids h ps

-- these were put, which stand with the closing bracket between the places
pub record ArePut (ids : List Json) (h : List (Transaction Json Json)) (bytes : List ℕ) (from to : ℕ) (b : Builder)
    : Type 0 where
  pub ps : List (Operation Json Json)
  pub each : All IsOperation ps
  pub text : AreWritten bytes from false (operations_tokens ps) to
  pub built : IsBuilt b ids h ps

-- so they are up to the bracket in front of the place; or some were put, where not all are in the layout
abbrev pub ArePutUpTo : List Json → List (Transaction Json Json) → List ℕ → (from : ℕ) → Builder → Option ℕ → Type 0
ArePutUpTo ids h bytes from b None = (begun : List (Operation Json Json)) × IsBuilt b ids h begun
ArePutUpTo ids h bytes from b (Some to) = ArePut ids h bytes from to b

-- the line's transaction was added, or an earlier one has its id; or nothing was added
abbrev pub IsPlainAdded : List Json → List (Transaction Json Json) → List ℕ → Builder → Option Bool → Type 0
IsPlainAdded ids h line b None = IsBuilt b ids h []
IsPlainAdded ids h line b (Some new) =
    (id : Json) × (t : Transaction Json Json) × IsLine line id t × IsAdded ids h id t b new
