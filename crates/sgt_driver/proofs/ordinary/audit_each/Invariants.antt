use Rattle.sgt_driver.specs.Status.{IsStatus}
use Rattle.sgt_driver.proofs.ordinary.audit_each.Given as goal

abbrev pub invariant-loop-text : goal.invariant-loop-text
invariant-loop-text g l = IsStatus l.status

abbrev pub invariant-loop-name : goal.invariant-loop-name
invariant-loop-name g l = IsStatus l.status
