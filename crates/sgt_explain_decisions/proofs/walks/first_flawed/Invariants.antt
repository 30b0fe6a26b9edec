use Rattle.sgt_explain_decisions.specs.Placed.{ArePlaced}
use Rattle.sgt_explain_decisions.specs.Walks.{HaveCycles}
use Rattle.sgt_explain_decisions.proofs.walks.first_flawed.Given as goal

abbrev pub invariant-loop-number : goal.invariant-loop-number
invariant-loop-number l = ArePlaced l.decisions l.placed → HaveCycles l.decisions l.number
