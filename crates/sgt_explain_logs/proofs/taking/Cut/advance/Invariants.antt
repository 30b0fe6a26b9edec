use Rattle.std.proofs.Common.{◌-◌, ◌≤◌, length}
use Rattle.sgt_explain_logs.specs.Taken.{IsCut}
use Rattle.sgt_explain_logs.proofs.taking.Cut.advance.Given as goal

abbrev pub invariant-lines : goal.invariant-lines
invariant-lines l = IsCut l.self l.text × (l.initial.self.lines ≤ l.self.lines)

abbrev pub decreases-lines : goal.decreases-lines
decreases-lines l = length l.text - l.self.seen
