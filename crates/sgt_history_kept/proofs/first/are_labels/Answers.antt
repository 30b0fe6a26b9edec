use Rattle.std.proofs.Common.{ℕ, List, subst, ◌⊎◌}
use Rattle.std.proofs.lemmas.Result.{IfOk-weaker}
use Rattle.sgt_graph.specs.Graph.{Goes}
use Rattle.sgt_history_kept.specs.Decided.{IsAskedBefore}
use Rattle.sgt_history_kept.specs.Rising.{Rises}
use Rattle.sgt_history_kept.proofs.first.are_labels.Goals as goal

pub returns : goal.returns
returns c =
    let edges = c.args.edges.now in
    let a = c.args.asked.now in
    let labels = c.args.labels.now in
    let R : ℕ → ℕ → Type 0 = λ x y. Goes edges x y ⊎ IsAskedBefore a x y in
    IfOk-weaker c.all_rise-2.result _ _ (λ holds rise yes. record {
      levels = subst (λ (left : List ℕ). Rises R left labels.enters.items) c.as_slice.ensures.value
          (subst (Rises R c.as_slice.result.now) c.as_slice-2.ensures.value
          (c.in_ok-levels.ensures c.if-not-levels.false));
      keys = subst (λ (left : List ℕ). Rises R left labels.keys.items) c.as_slice-3.ensures.value
          (subst (Rises R c.as_slice-3.result.now) c.as_slice-4.ensures.value (rise yes));
    }) c.all_rise-2.ensures
