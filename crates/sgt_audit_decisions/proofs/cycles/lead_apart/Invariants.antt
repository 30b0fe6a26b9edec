use Rattle.sgt_audit_decisions.proofs.Stops.{LeadApart}
use Rattle.sgt_audit_decisions.proofs.cycles.lead_apart.Given as goal

abbrev pub invariant-loop-step : goal.invariant-loop-step
invariant-loop-step l = LeadApart l.walk l.step-index l.met
