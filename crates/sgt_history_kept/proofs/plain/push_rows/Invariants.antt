use Rattle.sgt_history_kept.specs.Decided.{Adds, IsInRows}
use Rattle.sgt_history_kept.proofs.plain.push_rows.Given as goal

abbrev pub invariant-loop-from : goal.invariant-loop-from
invariant-loop-from l = Adds (IsInRows l.asked l.from l.lines) l.fn.edges.items l.edges.items
