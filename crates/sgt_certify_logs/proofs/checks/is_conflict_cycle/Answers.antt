use Rattle.std.proofs.Common.{◌≡◌, eq-eqb, ℕ, List, Some, refl, sym, ap, ◌∙◌, subst, take, arith}
use Rattle.std.proofs.lemmas.Bool.{eqb-true, true≢false}
use Rattle.std.proofs.lemmas.List.{take_all}
use Rattle.sgt_names.proofs.Lists.{element_at}
use Rattle.sgt_certify_logs.specs.Steps.{IsConflictStep, LeadFrom, LeadRound}
use Rattle.sgt_certify_logs.specs.declared.checks.ConflictStep.{ConflictStep}
use Rattle.sgt_certify_logs.proofs.Round.{from-round, holds-at, lead-next, lead-one, round-from}
use Rattle.sgt_certify_logs.proofs.checks.is_conflict_cycle.Goals as goal

pub returns-then-not-leads_on : goal.returns-then-not-leads_on
returns-then-not-leads_on c = (
  λ no. absurd cc,
  λ round.
      let whole =
      from-round (λ (s : ConflictStep). s.from) (λ (s : ConflictStep). s.to) (IsConflictStep c.args.sites.now)
      c.args.steps.now c.in-Some.first.now.from c.in-Some.first.now (sym c.in-Some.ensures.value) refl round in
      let at = element_at _ _ _ c.loop-step-test.true c.step-item.is in
      let holds =
      holds-at (λ (s : ConflictStep). s.from) (λ (s : ConflictStep). s.to) (IsConflictStep c.args.sites.now)
      c.args.steps.now c.loop-step.step-index c.in-Some.first.now.from c.loop-step.here c.in-Some.first.now.from
      c.step-item.result at
      c.loop-step.invariant whole in
      absurd (true≢false (sym (c.leads_on.ensures.1 holds) ∙ c.if-not-leads_on.true)),
)

pub loop-step-preserved : goal.loop-step-preserved
loop-step-preserved c =
    let holds = c.leads_on.ensures.0 c.if-not-leads_on.false in
    lead-next (λ (s : ConflictStep). s.from) (λ (s : ConflictStep). s.to) (IsConflictStep c.args.sites.now)
    c.args.steps.now c.loop-step.step-index c.in-Some.first.now.from c.loop-step.here c.step-item.result
    (element_at _ _ _ c.loop-step-test.true c.step-item.is) c.loop-step.invariant holds.0 holds.1

pub returns : goal.returns
returns c =
    let all =
    subst (λ (xs : List ConflictStep). LeadFrom (λ (s : ConflictStep). s.from) (λ (s : ConflictStep). s.to)
    (IsConflictStep c.args.sites.now) c.in-Some.first.now.from xs c.loop-step.here)
    (take_all c.loop-step.step-index c.args.steps.now c.loop-step-test.false) c.loop-step.invariant in (
      λ yes. round-from (λ (s : ConflictStep). s.from) (λ (s : ConflictStep). s.to) (IsConflictStep c.args.sites.now)
          c.args.steps.now c.in-Some.first.now.from c.in-Some.first.now (sym c.in-Some.ensures.value) refl
          (subst (λ b. LeadFrom (λ (s : ConflictStep). s.from) (λ (s : ConflictStep). s.to)
          (IsConflictStep c.args.sites.now) c.in-Some.first.now.from c.args.steps.now b)
          (eqb-true c.loop-step.here c.in-Some.first.now.from (sym c.eq.ensures ∙ yes)) all),
      λ round. c.eq.ensures
          ∙ eq-eqb c.loop-step.here c.in-Some.first.now.from
          (lead-one (λ (s : ConflictStep). s.from) (λ (s : ConflictStep). s.to) (IsConflictStep c.args.sites.now)
          c.args.steps.now c.in-Some.first.now.from c.loop-step.here c.in-Some.first.now.from all
          (from-round (λ (s : ConflictStep). s.from) (λ (s : ConflictStep). s.to) (IsConflictStep c.args.sites.now)
          c.args.steps.now c.in-Some.first.now.from c.in-Some.first.now (sym c.in-Some.ensures.value) refl round)),
    )
