use Rattle.std.proofs.Common.{sym, ◌∙◌, ◌++◌, ◌∷◌, [], ap, subst, take, append_assoc}
use Rattle.std.specs.Prelude.{filter}
use Rattle.sgt_names.proofs.Lists.{element_at}
use Rattle.sgt_order.specs.SerializationGraph.{is_present}
use Rattle.sgt_order.specs.private.Rows.{RowsCover}
use Rattle.sgt_order.proofs.Lists.{filter_hit, filter_miss}
use Rattle.sgt_order.proofs.rows.add_edges.Goals as goal
use Rattle.sgt_order.proofs.rows.add_edges.Goals.{then-is_present, else-is_present}

pub loop-edge-preserved : goal.loop-edge-preserved
loop-edge-preserved c =
    let p = is_present c.args.generation in
    let offered = c.args.offered.now in
    let n = c.loop-edge.edge-index in
    let e = c.edge-item.result in
    let at = element_at offered n e c.loop-edge-test.true c.edge-item.is in
    elim c.if-is_present.branch [
      | then-is_present w ↦
          let hit = sym c.is_present.ensures ∙ w.if-is_present.true in
          rw w.rows-is (λ over was.
          subst (RowsCover w.add_edge.new.rows) (append_assoc over (filter p (take n offered)) (e ∷ [])
          ∙ ap (λ z. over ++ z) (sym (filter_hit p offered n e at hit)))
          (w.add_edge.ensures (over ++ filter p (take n offered)) (c.loop-edge.invariant over was)))
      | else-is_present w ↦
          let miss = sym c.is_present.ensures ∙ w.if-is_present.false in
          rw w.rows-is (λ over was. subst (λ es. RowsCover c.loop-edge.rows (over ++ es))
          (sym (filter_miss p offered n e at miss)) (c.loop-edge.invariant over was))
    ]
