use Rattle.std.proofs.Common.{drop}
use Rattle.sgt_audit_decisions.proofs.Grouping.{IsPart}
use Rattle.sgt_audit_decisions.proofs.steps.add_walk.Given as goal

abbrev pub invariant-loop-step : goal.invariant-loop-step
invariant-loop-step l = IsPart l.fn.from l.at l.walk (drop l.step-index l.walk) l.initial.groups l.groups
