use Rattle.std.proofs.Common.{ℕ, List, Option, length}
use Rattle.sgt_history_faults.specs.declared.touch.Touch.{Touch}
use Rattle.sgt_graph.specs.declared.edge.Edge.{Edge}
use Rattle.sgt_history_verdict.specs.Steps.{AreBest}
use Rattle.sgt_history_verdict.proofs.LeastAlong.{AreBestTo}
use Rattle.sgt_history_verdict.proofs.between.quickly.Given as goal

abbrev pub invariant-loop-place : goal.invariant-loop-place
invariant-loop-place l = (touches : List Touch) (pairs : List Edge) (ranks : List ℕ)
    → AreBest touches pairs ranks l.behind (length pairs) l.best
    → AreBestTo touches pairs ranks l.lines l.place l.steps.items
