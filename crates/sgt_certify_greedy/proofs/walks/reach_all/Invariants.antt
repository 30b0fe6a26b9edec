use Rattle.std.proofs.Common.{length}
use Rattle.sgt_certify_greedy.proofs.Walking.{IsReaching}
use Rattle.sgt_certify_greedy.proofs.walks.reach_all.Given as goal

abbrev pub invariant-reaching : goal.invariant-reaching
invariant-reaching l = IsReaching l.sites l.through l.fn.tx l.reached.items l.unreached.items

abbrev pub decreases-reaching : goal.decreases-reaching
decreases-reaching l = length l.unreached.items
