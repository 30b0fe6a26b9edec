use Rattle.std.proofs.Common.{◌≡◌, sym, refl, ◌∙◌}
use Rattle.std.proofs.lemmas.Bool.{true≢false}
use Rattle.sgt_names.proofs.Places.{Contains-from_at}
use Rattle.sgt_names.proofs.Lists.{All_in, All-next, All-whole, element_at}
use Rattle.sgt_certify_stuck.specs.Circles.{IsCircle}
use Rattle.sgt_certify_stuck.specs.declared.stuck.Circle.{Circle}
use Rattle.sgt_certify_stuck.proofs.stuck.has_circle.Goals as goal

pub returns-then-encircled : goal.returns-then-encircled
returns-then-encircled c =
    let at = element_at c.args.circles.now c.loop-circle.circle-index c.circle-item.result c.loop-circle-test.true
    c.circle-item.is in
    let its = c.in_ok-encircled.ensures.0 c.if-encircled.true in (
      λ _. (
        c.circle-item.result,
        Contains-from_at c.args.circles.now c.loop-circle.circle-index c.circle-item.result
            at,
        its.0,
        its.1,
      ),
      λ _. refl,
    )

pub loop-circle-preserved : goal.loop-circle-preserved
loop-circle-preserved c =
    let at = element_at c.args.circles.now c.loop-circle.circle-index c.circle-item.result c.loop-circle-test.true
    c.circle-item.is in
    All-next (λ (circle : Circle). (circle.tx ≡ c.args.tx) × IsCircle c.args.sites.now c.args.committed.now circle → ⊥)
    c.args.circles.now c.loop-circle.circle-index c.circle-item.result at
    (λ its. true≢false (sym (c.in_ok-encircled.ensures.1 its) ∙ c.if-encircled.false))
    c.loop-circle.invariant

pub returns : goal.returns
returns c =
    let P = λ (circle : Circle). (circle.tx ≡ c.args.tx) × IsCircle c.args.sites.now c.args.committed.now circle
    → ⊥ in (
      λ no. absurd (true≢false (sym no)),
      λ (circle, here, is, whole). absurd (All_in P c.args.circles.now circle
          (All-whole P c.args.circles.now c.loop-circle.circle-index c.loop-circle-test.false c.loop-circle.invariant)
          here (is, whole)),
    )
