use Rattle.std.proofs.Common.{arith}
use Rattle.sgt_names.proofs.Lists.{element_at, All-next, All-whole}
use Rattle.sgt_bundle.specs.declared.certificate.Step.{Step}
use Rattle.sgt_explain_decisions.specs.Walks.{MayBePassed}
use Rattle.sgt_explain_decisions.proofs.walks.flaw_between.Goals as goal

pub returns-in-Some-clause-some : goal.returns-in-Some-clause-some
returns-in-Some-clause-some c = λ placed.
    let between = c.args.between.now in
    let i = c.loop-place.place in
    let step = c.index-between-place.result in
    record {
      place = i;
      step = step;
      there = element_at between i step (omega arith) c.index-between-place.is;
      is = c.in-Some.ensures.some placed;
      before = c.loop-place.invariant placed;
    }

pub loop-place-preserved : goal.loop-place-preserved
loop-place-preserved c = λ placed.
    let between = c.args.between.now in
    let i = c.loop-place.place in
    let step = c.index-between-place.result in
    All-next (λ (s : Step). MayBePassed c.args.decisions.now c.args.refused.now.number c.args.refused.now.tx s.to)
    between i step (element_at between i step (omega arith) c.index-between-place.is)
    (c.in_default.ensures.none placed) (c.loop-place.invariant placed)

pub returns-clause-none : goal.returns-clause-none
returns-clause-none c = λ placed.
    All-whole (λ (s : Step). MayBePassed c.args.decisions.now c.args.refused.now.number c.args.refused.now.tx s.to)
    c.args.between.now c.loop-place.place
    (omega (arith, c.loop-place-test.false)) (c.loop-place.invariant placed)
