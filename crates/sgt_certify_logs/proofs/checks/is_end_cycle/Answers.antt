use Rattle.std.proofs.Common.{◌≡◌, eq-eqb, ℕ, List, Some, refl, sym, ap, ◌∙◌, subst, take, arith}
use Rattle.std.proofs.lemmas.Bool.{eqb-true, true≢false}
use Rattle.std.proofs.lemmas.List.{take_all}
use Rattle.sgt_names.proofs.Lists.{element_at}
use Rattle.sgt_certify_logs.specs.Steps.{IsEndStep, LeadFrom, LeadRound}
use Rattle.sgt_certify_logs.specs.declared.checks.EndStep.{EndStep}
use Rattle.sgt_certify_logs.proofs.Round.{from-round, holds-at, lead-next, lead-one, round-from}
use Rattle.sgt_certify_logs.proofs.checks.is_end_cycle.Goals as goal

pub returns-then-not-goes_on : goal.returns-then-not-goes_on
returns-then-not-goes_on c = (
  λ no. absurd cc,
  λ round.
      let whole =
      from-round (λ (s : EndStep). s.from) (λ (s : EndStep). s.to) (IsEndStep c.args.sites.now) c.args.steps.now
      c.in-Some.first.now.from c.in-Some.first.now (sym c.in-Some.ensures.value) refl round in
      let at = element_at _ _ _ c.loop-step-test.true c.step-item.is in
      let holds =
      holds-at (λ (s : EndStep). s.from) (λ (s : EndStep). s.to) (IsEndStep c.args.sites.now) c.args.steps.now
      c.loop-step.step-index c.in-Some.first.now.from c.loop-step.here c.in-Some.first.now.from c.step-item.result
      at
      c.loop-step.invariant whole in
      absurd (true≢false (sym (c.goes_on.ensures.1 holds) ∙ c.if-not-goes_on.true)),
)

pub loop-step-preserved : goal.loop-step-preserved
loop-step-preserved c =
    let holds = c.goes_on.ensures.0 c.if-not-goes_on.false in
    lead-next (λ (s : EndStep). s.from) (λ (s : EndStep). s.to) (IsEndStep c.args.sites.now) c.args.steps.now
    c.loop-step.step-index c.in-Some.first.now.from c.loop-step.here c.step-item.result
    (element_at _ _ _ c.loop-step-test.true c.step-item.is) c.loop-step.invariant holds.0 holds.1

pub returns : goal.returns
returns c =
    let all =
    subst (λ (xs : List EndStep). LeadFrom (λ (s : EndStep). s.from) (λ (s : EndStep). s.to)
    (IsEndStep c.args.sites.now) c.in-Some.first.now.from xs c.loop-step.here)
    (take_all c.loop-step.step-index c.args.steps.now c.loop-step-test.false) c.loop-step.invariant in (
      λ yes. round-from (λ (s : EndStep). s.from) (λ (s : EndStep). s.to) (IsEndStep c.args.sites.now)
          c.args.steps.now c.in-Some.first.now.from c.in-Some.first.now (sym c.in-Some.ensures.value) refl
          (subst (λ b. LeadFrom (λ (s : EndStep). s.from) (λ (s : EndStep). s.to) (IsEndStep c.args.sites.now)
          c.in-Some.first.now.from c.args.steps.now b)
          (eqb-true c.loop-step.here c.in-Some.first.now.from (sym c.eq.ensures ∙ yes)) all),
      λ round. c.eq.ensures
          ∙ eq-eqb c.loop-step.here c.in-Some.first.now.from
          (lead-one (λ (s : EndStep). s.from) (λ (s : EndStep). s.to) (IsEndStep c.args.sites.now) c.args.steps.now
          c.in-Some.first.now.from c.loop-step.here c.in-Some.first.now.from all
          (from-round (λ (s : EndStep). s.from) (λ (s : EndStep). s.to) (IsEndStep c.args.sites.now) c.args.steps.now
          c.in-Some.first.now.from c.in-Some.first.now (sym c.in-Some.ensures.value) refl round)),
    )
