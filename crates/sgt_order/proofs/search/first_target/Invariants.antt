use Rattle.std.proofs.Common.{◌≡◌, ◌≤◌, ℕ, Some, take, vec_len}
use Rattle.std.specs.Prelude.{slice_get}
use Rattle.sgt_edges.specs.declared.edge.Edge.{Edge as Joint}
use Rattle.sgt_order.specs.private.Search.{IsFrom, IsTargetOrEnd}
use Rattle.sgt_order.proofs.search.first_target.Given as goal

abbrev pub invariant-loop-edge : goal.invariant-loop-edge
invariant-loop-edge l = record {
  within : l.first ≤ vec_len l.dag.order;
  least : (e : Joint) → IsFrom l.from (take l.edge-index l.offered) e → (p : ℕ)
      → slice_get l.dag.order.items p ≡ Some e.to → l.first ≤ p;
  met : IsTargetOrEnd l.dag.order.items l.from (take l.edge-index l.offered) l.first;
}
