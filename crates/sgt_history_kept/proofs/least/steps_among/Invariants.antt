use Rattle.std.proofs.Common.{All}
use Rattle.sgt_history_kept.specs.Decided.{IsStepAmong}
use Rattle.sgt_history_kept.proofs.least.steps_among.Given as goal

abbrev pub invariant-loop-at : goal.invariant-loop-at
invariant-loop-at l = All (IsStepAmong l.lines l.edges l.asked) l.all.items
