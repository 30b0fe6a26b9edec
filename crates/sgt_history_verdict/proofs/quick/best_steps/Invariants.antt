use Rattle.sgt_history_verdict.specs.Steps.{AreBest}
use Rattle.sgt_history_verdict.proofs.quick.best_steps.Given as goal

abbrev pub invariant-loop-pair : goal.invariant-loop-pair
invariant-loop-pair l = AreBest l.touches l.pairs l.ranks l.behind l.pair-index l.best.items
