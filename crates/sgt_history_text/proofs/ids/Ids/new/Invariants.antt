use Rattle.std.proofs.Common.{◌≡◌, take, List}
use Rattle.json.specs.Json.{Json}
use Rattle.sgt_history_text.specs.Ids.{AreIds}
use Rattle.sgt_history_text.proofs.ids.Ids.new.Given as goal

abbrev pub invariant-loop-number : goal.invariant-loop-number
invariant-loop-number l = (ids : List Json) → AreIds l.names ids → l.table ≡ take l.number l.names
