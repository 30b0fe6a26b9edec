use Rattle.sgt_driver.specs.Status.{IsStatus}
use Rattle.sgt_driver.proofs.object.answered_each.Given as goal

abbrev pub invariant-loop-name : goal.invariant-loop-name
invariant-loop-name g l = IsStatus l.status
