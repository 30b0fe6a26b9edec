use Rattle.sgt_names.proofs.Lists.{element_at}
use Rattle.sgt_names.proofs.Places.{All_at}
use Rattle.sgt_certify_logs.specs.Steps.{IsConflictStep}
use Rattle.sgt_certify_logs.specs.declared.checks.ConflictStep.{ConflictStep}
use Rattle.sgt_certify.proofs.NextEnds.{none-of}
use Rattle.sgt_certify.proofs.Numbered.{each-round}
use Rattle.sgt_certify.proofs.telling.conflict_lines.Goals as goal

pub returns-in_default-clause-none : goal.returns-in_default-clause-none
returns-in_default-clause-none c are cycle =
    let steps = c.args.steps.now in
    let at = element_at steps c.loop-step.step-index c.step-item.result c.loop-step-test.true c.step-item.is in
    let all = each-round (λ (s : ConflictStep). s.from) (λ (s : ConflictStep). s.to) (IsConflictStep c.args.sites.now)
    steps cycle in
    none-of _ _ c.in_default.not-Some c.in_ok-line.ensures.none are
    (All_at (IsConflictStep c.args.sites.now) steps c.loop-step.step-index c.step-item.result all at)
