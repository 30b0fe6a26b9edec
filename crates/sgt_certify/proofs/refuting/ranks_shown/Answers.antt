use Rattle.std.proofs.Common.{ℕ, inl, refl, sym, ◌∙◌}
use Rattle.std.proofs.lemmas.Bool.{true≢false}
use Rattle.sgt_certify_logs.specs.Steps.{IsConflictStep}
use Rattle.sgt_certify_logs.specs.Witness.{PrecedesCommitted}
use Rattle.sgt_certify_logs.specs.declared.checks.ConflictStep.{ConflictStep}
use Rattle.sgt_certify_logs.proofs.Round.{conflict-step, round-cycle}
use Rattle.sgt_certify.proofs.NextEnds.{none-of}
use Rattle.sgt_certify.proofs.refuting.ranks_shown.Goals as goal

pub returns-clause-shown : goal.returns-clause-shown
returns-clause-shown c =
    let sites = c.args.sites.now in
    round-cycle (λ (s : ConflictStep). s.from) (λ (s : ConflictStep). s.to) (IsConflictStep sites)
    (PrecedesCommitted sites) (conflict-step sites) c.args.cycle.now
    (c.is_conflict_cycle.ensures.0 c.if-not-is_conflict_cycle.false)

pub returns-clause-lines : goal.returns-clause-lines
returns-clause-lines c = inl (
  c.args.cycle.now,
  c.is_conflict_cycle.ensures.0 c.if-not-is_conflict_cycle.false,
  rw c.in-Some.is at c.in_ok-lines.ensures.some,
)

pub returns-clause-tells : goal.returns-clause-tells
returns-clause-tells c = (
  refl,
  (
    c.is_conflict_cycle.ensures.0 c.if-not-is_conflict_cycle.false,
    c.in_ok-ends_follow.ensures.exact.0 c.if-not-branch.false,
  ),
  rw c.in-Some.is at c.in_ok-lines.ensures.some,
)

pub returns-then-not-is_conflict_cycle-clause-none : goal.returns-then-not-is_conflict_cycle-clause-none
returns-then-not-is_conflict_cycle-clause-none c are holds =
    absurd (true≢false (sym (c.is_conflict_cycle.ensures.1 holds.0) ∙ c.if-not-is_conflict_cycle.true))

pub returns-then-not-branch-clause-none : goal.returns-then-not-branch-clause-none
returns-then-not-branch-clause-none c are holds =
    absurd (true≢false (sym (c.in_ok-ends_follow.ensures.exact.1 holds.1) ∙ c.if-not-branch.true))

pub returns-in_default-clause-none : goal.returns-in_default-clause-none
returns-in_default-clause-none c are holds = none-of _ _ c.in_default.not-Some c.in_ok-lines.ensures.none are holds.0
