use Rattle.std.proofs.Common.{◌≡◌, ◌<◌, ℕ, Some}
use Rattle.std.specs.Prelude.{slice_get}
use Rattle.sgt_edges.specs.declared.edge.Edge.{Edge}
use Rattle.sgt_certifier.specs.History.{Fits}
use Rattle.sgt_certifier.proofs.judge.Judge.has_unfit.Given as goal

abbrev pub invariant-loop-edge : goal.invariant-loop-edge
invariant-loop-edge l = (n : ℕ) (e : Edge) → n < l.edge-index → slice_get l.edges n ≡ Some e → Fits l.self l.handle e
