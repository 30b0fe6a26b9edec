use Rattle.std.proofs.Common.{ℕ, inl, refl, sym, ◌∙◌}
use Rattle.std.proofs.lemmas.Bool.{true≢false}
use Rattle.sgt_certify_logs.specs.Steps.{IsEndStep}
use Rattle.sgt_certify_logs.specs.Witness.{EndsBefore}
use Rattle.sgt_certify_logs.specs.declared.checks.EndStep.{EndStep}
use Rattle.sgt_certify_logs.proofs.Round.{end-step, round-cycle}
use Rattle.sgt_certify.proofs.NextEnds.{none-of}
use Rattle.sgt_certify.proofs.refuting.order_shown.Goals as goal

pub returns-clause-shown : goal.returns-clause-shown
returns-clause-shown c =
    let sites = c.args.sites.now in
    round-cycle (λ (s : EndStep). s.from) (λ (s : EndStep). s.to) (IsEndStep sites) (EndsBefore sites)
    (end-step sites) c.args.steps.now
    (c.is_end_cycle.ensures.0 c.if-not-is_end_cycle.false)

pub returns-clause-lines : goal.returns-clause-lines
returns-clause-lines c = inl (
  c.args.steps.now,
  c.is_end_cycle.ensures.0 c.if-not-is_end_cycle.false,
  rw c.in-Some.is at c.in_ok-lines.ensures.some,
)

pub returns-clause-tells : goal.returns-clause-tells
returns-clause-tells c =
    (refl, c.is_end_cycle.ensures.0 c.if-not-is_end_cycle.false, rw c.in-Some.is at c.in_ok-lines.ensures.some)

pub returns-then-not-is_end_cycle-clause-none : goal.returns-then-not-is_end_cycle-clause-none
returns-then-not-is_end_cycle-clause-none c are cycle =
    absurd (true≢false (sym (c.is_end_cycle.ensures.1 cycle) ∙ c.if-not-is_end_cycle.true))

pub returns-in_default-clause-none : goal.returns-in_default-clause-none
returns-in_default-clause-none c = none-of _ _ c.in_default.not-Some c.in_ok-lines.ensures.none
