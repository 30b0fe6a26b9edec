use Rattle.std.proofs.Common.{List, []}
use Rattle.json.specs.Json.{Json}
use Rattle.sgt_history.specs.Transaction.{Transaction}
use Rattle.sgt_history_text.specs.Built.{IsBuilt}
use Rattle.sgt_history_text.specs.Plain.{ArePutBefore}
use Rattle.sgt_history_text.proofs.adding.push_operations_at.Given as goal

abbrev pub invariant-loop : goal.invariant-loop
invariant-loop l = (ids : List Json) (h : List (Transaction Json Json)) → IsBuilt l.initial.builder ids h []
    → ArePutBefore ids h l.bytes l.from l.at l.builder
