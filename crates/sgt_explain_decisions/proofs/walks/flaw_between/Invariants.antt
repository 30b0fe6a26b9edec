use Rattle.std.proofs.Common.{All, take}
use Rattle.sgt_explain_decisions.specs.Placed.{ArePlaced}
use Rattle.sgt_explain_decisions.specs.Walks.{MayBePassed}
use Rattle.sgt_explain_decisions.proofs.walks.flaw_between.Given as goal

abbrev pub invariant-loop-place : goal.invariant-loop-place
invariant-loop-place l = ArePlaced l.decisions l.placed
    → All (λ s. MayBePassed l.decisions l.refused.number l.refused.tx s.to) (take l.place l.between)
