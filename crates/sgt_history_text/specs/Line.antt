-- Which transaction a line spells.
use Rattle.std.specs.Prelude.{◌≡◌, ℕ, ◌<◌, ◌^◌, Bool, true, false, List, map, All, Option, Some, None, codes, decimal, IfSome, IsUtf8}
use Rattle.json.specs.Json.{Json, string, number, array, object, Items, no_items, item, Members}
use Rattle.json.specs.Find.{get_member}
use Rattle.json.specs.Lex.{tokens}
use Rattle.json.specs.Tree.{json_tokens}
use Rattle.json.specs.Value.{items_of}
use Rattle.sgt_history.specs.Transaction.{Transaction, WritesPositive}
use Rattle.sgt_history.specs.declared.history.Kind.{Kind}
use Rattle.sgt_history.specs.declared.history.Kind.TheVariants.{Read, Write}
use Rattle.sgt_history.specs.declared.history.Operation.{Operation}
use Rattle.sgt_history_text.specs.Name.{IsId, IsItem, IsValue}

-- the bytes are a text of the JSON value, in whatever layout: their tokens are its tokens
pub record IsTextOf (bytes : List ℕ) (j : Json) : Type 0 where
  pub utf8 : IsUtf8 bytes
  pub tokens_are : tokens bytes ≡ json_tokens j

-- ---- an operation, as JSON

abbrev pub kind_word : Kind → List ℕ
kind_word Read = codes "r"
kind_word Write = codes "w"

-- the fourth element, or none
abbrev pub given : Option Json → Items
given None = no_items
given (Some value) = item value no_items

abbrev pub operation_json : Operation Json Json → Json
operation_json o =
    array (item (string (kind_word o.kind)) (item o.item (item (number (decimal o.version)) (given o.value))))

-- what may stand in it; 0 is read alone
pub record IsOperation (o : Operation Json Json) : Type 0 where
  pub item_is : IsItem o.item
  pub version_fits : o.version < 2 ^ 64
  pub positive : WritesPositive o
  pub value_is : IfSome o.value IsValue

-- ---- a line

abbrev pub end_word : Bool → List ℕ
end_word true = codes "commit"
end_word false = codes "abort"

-- the line is an object with these three members (of those of one name the last counts, others say
-- nothing)
pub record IsLine (line : List ℕ) (id : Json) (t : Transaction Json Json) : Type 0 where
  pub members : Members
  pub is_object : IsTextOf line (object members)
  pub tx : get_member (codes "tx") members ≡ Some id
  pub end : get_member (codes "end") members ≡ Some (string (end_word t.commits))
  pub ops : get_member (codes "ops") members ≡ Some (array (items_of (map operation_json t.operations)))
  pub id_is : IsId id
  pub each : All IsOperation t.operations
