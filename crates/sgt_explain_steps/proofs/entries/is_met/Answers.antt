use Rattle.std.proofs.Common.{◌≢◌, arith, refl, rules}
use Rattle.std.proofs.lemmas.Bool.{false≢true}
use Rattle.sgt_names.proofs.Lists.{element_at}
use Rattle.sgt_explain_steps.specs.Unmet.{StepsTo}
use Rattle.sgt_explain_steps.proofs.Meetings.{none-more, none-in, conflict-there}
use Rattle.sgt_explain_steps.proofs.entries.is_met.Goals as goal

pub loop-place-preserved : goal.loop-place-preserved
loop-place-preserved c =
    let entries = c.args.entries.now in
    let step = c.args.step.now in
    let here = c.index-entries-place.result in
    none-more (λ e f. StepsTo c.args.from step e f → ⊥) step.to entries c.loop-place.place here
    (element_at entries c.loop-place.place here (omega arith) c.index-entries-place.is)
    c.loop-place.invariant (c.clashes_with.ensures.none c.if-clashes_with.false)

pub returns-then-clashes_with : goal.returns-then-clashes_with
returns-then-clashes_with c =
    let entries = c.args.entries.now in
    let here = c.index-entries-place.result in
    let apart : c.args.from ≢ c.args.step.now.to = search rules in (
      λ yes. conflict-there entries c.args.from c.args.step.now c.loop-place.place here apart
          (element_at entries c.loop-place.place here (omega arith) c.index-entries-place.is)
          (c.clashes_with.ensures.to c.if-clashes_with.true) (c.clashes_with.ensures.among c.if-clashes_with.true),
      λ met. refl,
    )

pub returns : goal.returns
returns c = (
  λ yes. absurd (false≢true yes),
  λ met. absurd (none-in (λ e f. StepsTo c.args.from c.args.step.now e f
      → ⊥) c.args.entries.now c.args.step.now.label.kind c.args.step.now.label.item c.args.from c.args.step.now.to
      (λ e f no own clash. no (own, clash)) (λ q f less at. c.loop-place.invariant q f (omega (arith, less)) at) met),
)
