use Rattle.sgt_certify_stuck.proofs.Clear.{HasSeen}
use Rattle.sgt_certify_stuck.proofs.apart.is_clear.Given as goal

abbrev pub invariant-loop-entry : goal.invariant-loop-entry
invariant-loop-entry l = HasSeen l.entries l.entry-index l.sources l.barred l.pair.first l.pair.second l.seen
