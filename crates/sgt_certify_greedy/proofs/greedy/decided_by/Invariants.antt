use Rattle.std.proofs.Common.{◌≡◌, map, take}
use Rattle.sgt_bundle.specs.Certificate.{decided_tx}
use Rattle.sgt_certify_greedy.proofs.greedy.decided_by.Given as goal

abbrev pub invariant-loop-decision : goal.invariant-loop-decision
invariant-loop-decision l = l.txs.items ≡ map decided_tx (take l.decision-index l.decisions)
