use Rattle.std.proofs.Common.{length}
use Rattle.sgt_certify_greedy.specs.Pairs.{Leads}
use Rattle.sgt_certify_greedy.proofs.Placing.{IsPlacing}
use Rattle.sgt_certify_greedy.proofs.sorting.sorted.Given as goal

abbrev pub invariant-placing : goal.invariant-placing
invariant-placing l = IsPlacing (Leads l.pairs) l.txs l.left.items l.order.items

abbrev pub decreases-placing : goal.decreases-placing
decreases-placing l = length l.left.items
