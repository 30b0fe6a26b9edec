use Rattle.std.proofs.Common.{◌+◌, length}
use Rattle.sgt_service_settle.specs.private.Search.{unmarked}
use Rattle.sgt_service_settle.proofs.Searching.{Searching}
use Rattle.sgt_service_settle.proofs.search.search.Given as goal

abbrev pub invariant-loop-at : goal.invariant-loop-at
invariant-loop-at l = Searching l.rows l.cut l.start l.marks l.stack.items

abbrev pub decreases-loop-at : goal.decreases-loop-at
decreases-loop-at l = unmarked l.marks + length l.stack.items
