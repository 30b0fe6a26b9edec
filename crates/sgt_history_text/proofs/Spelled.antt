-- A line spells a transaction exactly where the object that it is a text of says so.
use Rattle.std.proofs.Common.{◌≡◌, Bool, true, false, List, ℕ, map, Some, sym, ap, ◌∙◌, codes}
use Rattle.json.specs.Json.{Json, array, object, Members}
use Rattle.json.specs.Find.{get}
use Rattle.json.specs.Value.{items_of}
use Rattle.sgt_history.specs.Transaction.{Transaction}
use Rattle.sgt_history.specs.declared.history.Operation.{Operation}
use Rattle.sgt_history_text.specs.Line.{IsLine, IsTextOf, operation_json}
use Rattle.sgt_history_text.specs.Members.{AreOperations, operations_in}
use Rattle.sgt_history_text.specs.Parsed.{IsHead}
use Rattle.sgt_history_text.proofs.Trees.{same_tokens}

module _ (line : List ℕ) (ms : Members) (text : IsTextOf line (object ms)) where
  pub line_from : (id : Json) (commits : Bool) (put : List (Operation Json Json)) → IsHead (object ms) id commits
      → AreOperations (operations_in ms) true put
      → IsLine line id (record { commits = commits; operations = put })
  line_from id commits put is ops = record {
    members = ms;
    is_object = text;
    tx = is.tx;
    end = is.end;
    ops = ops.0;
    id_is = is.id_is;
    each = ops.1;
  }

  module _ (id : Json) (t : Transaction Json Json) (is : IsLine line id t) where
    same : object ms ≡ object is.members
    same = same_tokens (object ms) (object is.members) (sym text.tokens_are ∙ is.is_object.tokens_are)

    pub head_of_line : IsHead (object ms) id t.commits
    head_of_line = record {
      tx = ap (get (codes "tx")) same ∙ is.tx;
      end = ap (get (codes "end")) same ∙ is.end;
      id_is = is.id_is;
    }

    pub operations_of_line : operations_in ms ≡ Some (array (items_of (map operation_json t.operations)))
    operations_of_line = ap (get (codes "ops")) same ∙ is.ops

    -- where the last member "ops" is none of operations, it spells none
    pub no_line : (put : List (Operation Json Json)) → AreOperations (operations_in ms) false put → ⊥
    no_line put none = none t.operations is.each operations_of_line
