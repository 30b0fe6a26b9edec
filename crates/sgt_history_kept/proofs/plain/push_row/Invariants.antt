use Rattle.sgt_history_kept.specs.Decided.{Adds, IsInRow}
use Rattle.sgt_history_kept.proofs.plain.push_row.Given as goal

abbrev pub invariant-loop-to : goal.invariant-loop-to
invariant-loop-to l = Adds (IsInRow l.asked l.from l.to) l.fn.edges.items l.edges.items
