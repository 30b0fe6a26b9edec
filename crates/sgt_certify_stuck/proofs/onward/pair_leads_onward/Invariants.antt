use Rattle.sgt_certify_stuck.proofs.Orders.{HasTops}
use Rattle.sgt_certify_stuck.proofs.onward.pair_leads_onward.Given as goal

abbrev pub invariant-loop-entry : goal.invariant-loop-entry
invariant-loop-entry l = HasTops l.entries l.places l.entry-index l.pair.first l.pair.second l.tops
