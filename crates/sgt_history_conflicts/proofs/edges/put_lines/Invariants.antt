use Rattle.std.proofs.Common.{◌≡◌, ◌≤◌, ◌<◌, ℕ, length, Some}
use Rattle.std.specs.Prelude.{slice_get}
use Rattle.sgt_graph.specs.declared.edge.Edge.{Edge}
use Rattle.sgt_history_conflicts.specs.Edges.{IsLined}
use Rattle.sgt_history_conflicts.proofs.edges.put_lines.Given as goal

abbrev pub invariant-loop-k : goal.invariant-loop-k
invariant-loop-k l = record {
  size : length l.edges.items ≡ length l.fn.edges.items;
  done : (k : ℕ) (p q : Edge) → k < l.k → slice_get l.fn.edges.items k ≡ Some p → slice_get l.edges.items k ≡ Some q
      → IsLined l.touches p q;
  rest : (k : ℕ) → l.k ≤ k → slice_get l.edges.items k ≡ slice_get l.fn.edges.items k;
}
