use Rattle.std.proofs.Common.{All, take}
use Rattle.sgt_audit_decisions.proofs.Walks.{LeadsThrough}
use Rattle.sgt_audit_decisions.proofs.cycles.lead_to_committed.Given as goal

abbrev pub invariant-loop-step : goal.invariant-loop-step
invariant-loop-step l = All (LeadsThrough l.certificate.decisions l.number l.tx) (take l.step-index l.walk)
