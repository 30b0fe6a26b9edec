use Rattle.std.proofs.Common.{◌≡◌, ◌++◌, take}
use Rattle.std.specs.List.{flat_map}
use Rattle.sgt_history_picture.specs.Graph.{edge_text}
use Rattle.sgt_history_picture.specs.Told.{step_of}
use Rattle.sgt_history_picture.proofs.graph.put_edges.Given as goal

abbrev pub invariant-loop-step : goal.invariant-loop-step
invariant-loop-step l = l.canvas ≡ l.initial.canvas ++ flat_map (λ t. edge_text (step_of t)) (take l.step-index l.steps)
