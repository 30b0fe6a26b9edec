use Rattle.std.proofs.Common.{length}
use Rattle.sgt_certify_greedy.specs.Decided.{IsDeciding}
use Rattle.sgt_certify_greedy.proofs.greedy.decide_each.Given as goal

abbrev pub invariant-deciding : goal.invariant-deciding
invariant-deciding l = IsDeciding l.sites l.known.order.items l.left.items l.commits.items l.decisions.items

abbrev pub decreases-deciding : goal.decreases-deciding
decreases-deciding l = length l.left.items
