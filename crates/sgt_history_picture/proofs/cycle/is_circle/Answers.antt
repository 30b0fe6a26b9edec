use Rattle.std.proofs.Common.{List, [], map, refl, sym, subst}
use Rattle.std.proofs.lemmas.Bool.{false≢true}
use Rattle.sgt_history_picture.specs.Told.{IsCircle, step_of}
use Rattle.sgt_history_picture.specs.declared.told.Kind.TheVariants.{WriteWrite}
use Rattle.sgt_history_picture.specs.declared.told.Told.{Told}
use Rattle.sgt_history_picture.proofs.Cycles.{lead-end, lead-next, lead-off}
use Rattle.sgt_history_picture.proofs.cycle.is_circle.Goals as goal

pub returns-then-not-are_same : goal.returns-then-not-are_same
returns-then-not-are_same c = (
  λ is. absurd (false≢true is),
  λ is. absurd (lead-off c.in-Some.first.now.to.now c.loop-step.at.now c.in-Some.first.now.from.now c.in-Some.rest.now
      c.loop-step.step-index
      (record {
        from = record { ref_ptr = (0, 0); now = [] };
        kind = WriteWrite;
        to =
            record { ref_ptr = (0, 0); now = [] };
        about = record { ref_ptr = (0, 0); now = [] };
      })
      c.loop-step-test.true c.loop-step.invariant (λ same. false≢true (c.if-not-are_same.ensures.1 same))
      (subst (λ (told : List Told). IsCircle (map step_of told)) c.in-Some.ensures.cases.0 is)),
)

pub loop-step-preserved : goal.loop-step-preserved
loop-step-preserved c =
    lead-next c.in-Some.first.now.to.now c.loop-step.at.now c.in-Some.rest.now c.loop-step.step-index _
    c.loop-step-test.true c.loop-step.invariant
    (c.if-not-are_same.ensures.0 refl)

pub returns : goal.returns
returns c =
    let h = lead-end c.in-Some.first.now.to.now c.loop-step.at.now c.in-Some.first.now.from.now c.in-Some.rest.now
    c.loop-step.step-index c.loop-step-test.false c.loop-step.invariant in (
      λ is. subst (λ (told : List Told). IsCircle (map step_of told)) (sym c.in-Some.ensures.cases.0)
          (h.0 (c.are_same-2.ensures.0 is)),
      λ round. c.are_same-2.ensures.1
          (h.1 (subst (λ (told : List Told). IsCircle (map step_of told)) c.in-Some.ensures.cases.0 round)),
    )
