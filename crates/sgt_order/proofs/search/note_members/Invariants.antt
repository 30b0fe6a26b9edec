use Rattle.sgt_order.specs.private.Search.{AreMet}
use Rattle.sgt_order.proofs.search.note_members.Given as goal

abbrev pub invariant-loop-handle : goal.invariant-loop-handle
invariant-loop-handle l = AreMet l.met l.marks
