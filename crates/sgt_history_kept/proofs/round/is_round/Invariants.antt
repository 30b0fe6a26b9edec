use Rattle.std.specs.Prelude.{◌⊎◌}
use Rattle.sgt_graph.specs.Graph.{Goes}
use Rattle.sgt_history_kept.specs.Decided.{IsAskedBefore}
use Rattle.sgt_history_kept.proofs.Rounds.{LeadsTo}
use Rattle.sgt_history_kept.proofs.round.is_round.Given as goal

abbrev pub invariant-loop-place : goal.invariant-loop-place
invariant-loop-place l = LeadsTo (λ a b. Goes l.edges a b ⊎ IsAskedBefore l.asked a b) l.cycle l.place
