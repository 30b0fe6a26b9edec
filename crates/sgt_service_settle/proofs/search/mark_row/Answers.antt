use Rattle.std.proofs.Common.{arith, refl, sym, ◌∙◌}
use Rattle.std.proofs.lemmas.Bool.{true≢false}
use Rattle.sgt_service_settle.specs.declared.link.Arc.{Arc as Far}
use Rattle.sgt_service_settle.proofs.Marking.{row_next, row_skip}
use Rattle.sgt_service_settle.proofs.search.mark_row.Goals as goal
use Rattle.sgt_service_settle.proofs.search.mark_row.Goals.{then-passes+in_ok-mark, else-passes}
use Rattle.sgt_names.proofs.Lists.{element_at}

pub mark-requires : goal.mark-requires
mark-requires c =
    let at = element_at c.args.row.now c.loop-arc.arc-index c.arc-item.result c.loop-arc-test.true c.arc-item.is in
    omega (
      arith,
      c.requires c.arc-item.result.to (
        c.loop-arc.arc-index,
        c.arc-item.result,
        at,
        refl,
        c.passes.ensures.0 c.if-passes.true,
      ),
      c.loop-arc.auto.marks,
    )

pub loop-arc-preserved : goal.loop-arc-preserved
loop-arc-preserved c =
    let arc : Far = c.arc-item.result in
    let at = element_at c.args.row.now c.loop-arc.arc-index c.arc-item.result c.loop-arc-test.true c.arc-item.is in
    elim c.if-passes.branch [
      | then-passes+in_ok-mark w ↦
          rw w.marks-is
          (rw w.stack-is (row_next c.args.row.now c.args.cut.now c.loop-arc.arc-index arc _ _ _ _ _ _ at
          (c.passes.ensures.0 w.if-passes.true) c.loop-arc.invariant w.in_ok-mark.ensures))
      | else-passes w ↦
          rw w.marks-is
          (rw w.stack-is (row_skip c.args.row.now c.args.cut.now c.loop-arc.arc-index arc _ _ _ _ at
          (λ p. true≢false (sym (c.passes.ensures.1 p) ∙ w.if-passes.false)) c.loop-arc.invariant))
    ]
