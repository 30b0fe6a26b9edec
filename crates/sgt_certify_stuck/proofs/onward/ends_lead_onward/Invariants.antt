use Rattle.sgt_certify_stuck.proofs.Orders.{RiseTo}
use Rattle.sgt_certify_stuck.proofs.onward.ends_lead_onward.Given as goal

abbrev pub invariant-loop-entry : goal.invariant-loop-entry
invariant-loop-entry l = RiseTo l.entries l.places l.entry-index l.last
