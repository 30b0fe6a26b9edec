use Rattle.std.proofs.Common.{sym, ap, ◌∙◌, length, arith, take}
use Rattle.std.proofs.lemmas.List.{length_push, length-take-le}
use Rattle.std.specs.Prelude.{filter}
use Rattle.sgt_names.proofs.Lists.{element_at}
use Rattle.sgt_order.specs.SerializationGraph.{is_present}
use Rattle.sgt_order.proofs.Lists.{filter_hit, filter_miss}
use Rattle.sgt_order.proofs.Present.{filter_less}
use Rattle.sgt_order.proofs.offer.present_len.Goals as goal
use Rattle.sgt_order.proofs.offer.present_len.Goals.{then-is_present, else-is_present}

pub overflow_add-count : goal.overflow_add-count
overflow_add-count c =
    let less = filter_less (is_present c.args.generation) (take c.loop-edge.edge-index c.args.offered.now) in
    omega (arith, less, length-take-le c.loop-edge.edge-index c.args.offered.now (omega arith), c.loop-edge.invariant)

pub loop-edge-preserved : goal.loop-edge-preserved
loop-edge-preserved c =
    let here = element_at c.args.offered.now c.loop-edge.edge-index c.edge-item.result c.loop-edge-test.true
    c.edge-item.is in
    elim c.if-is_present.branch [
      | then-is_present w ↦
          let hit = sym c.is_present.ensures ∙ w.if-is_present.true in
          let more =
          ap length (filter_hit (is_present c.args.generation) c.args.offered.now c.loop-edge.edge-index
          c.edge-item.result here hit) in
          rw w.count-is
          (omega (
            arith,
            c.loop-edge.invariant,
            more,
            length_push (filter (is_present c.args.generation) (take c.loop-edge.edge-index c.args.offered.now))
                c.edge-item.result,
          ))
      | else-is_present w ↦
          let miss = sym c.is_present.ensures ∙ w.if-is_present.false in
          rw w.count-is (c.loop-edge.invariant
          ∙ ap length
          (sym (filter_miss (is_present c.args.generation) c.args.offered.now c.loop-edge.edge-index
          c.edge-item.result here miss)))
    ]
