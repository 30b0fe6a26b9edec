use Rattle.std.proofs.Common.{◌≡◌, drop}
use Rattle.sgt_draw.specs.Wanted.{decision_on}
use Rattle.sgt_draw.proofs.task.decision_on.Given as goal

abbrev pub invariant-loop-decision : goal.invariant-loop-decision
invariant-loop-decision l = decision_on l.tx l.decisions ≡ decision_on l.tx (drop l.decision-index l.decisions)
