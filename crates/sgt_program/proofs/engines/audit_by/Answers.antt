use Rattle.std.proofs.Common.{inl}
use Rattle.sgt_audit.specs.declared.verdict.Verdict.{Verdict}
use Rattle.sgt_program.proofs.Answered.{audit-fails, verdict-answers}
use Rattle.sgt_program.proofs.Told.{due, leaves_audit, verdict-quiet}
use Rattle.sgt_program.proofs.engines.audit_by.Goals as goal

pub returns-in-Ok-clause-answers : goal.returns-in-Ok-clause-answers
returns-in-Ok-clause-answers g c =
    let said = c.in-Ok.ensures in
    rw c.outcome_of.ensures (verdict-answers _ _ _ c.in-Ok.verdict said.verdict said.headline said.written)

pub returns-in-Err-clause-answers : goal.returns-in-Err-clause-answers
returns-in-Err-clause-answers g c = audit-fails _ _ _ c.in-Err.fail c.in-Err.ensures.front

pub returns-in-Ok-clause-ends : goal.returns-in-Ok-clause-ends
returns-in-Ok-clause-ends g c =
    let said = c.in-Ok.ensures in (
      verdict-quiet c.in-Ok.verdict c.outcome_of.result _ _ c.outcome_of.ensures said.quiet_yes (said.once (λ e. cc)),
      said.writer.quiet (λ e. cc),
    )

pub returns-in-Err-clause-ends : goal.returns-in-Err-clause-ends
returns-in-Err-clause-ends g c =
    let said = c.in-Err.ensures in
    leaves_audit Verdict c.in-Err.fail _ _ _ (due _ _ _ _ _ _) (λ e. inl (said.quiet_memory e))
    said.read_fault said.writer
