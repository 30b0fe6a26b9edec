use Rattle.std.proofs.Common.{take}
use Rattle.sgt_service_settle.specs.private.Search.{Marked, IsTarget}
use Rattle.sgt_service_settle.proofs.search.mark_row.Given as goal

abbrev pub invariant-loop-arc : goal.invariant-loop-arc
invariant-loop-arc l = Marked (IsTarget (take l.arc-index l.row) l.cut) l.initial.marks l.initial.stack.items l.marks
    l.stack.items
