use Rattle.std.proofs.Common.{subst}
use Rattle.sgt_audit.specs.Verdict.{IsVerdict}
use Rattle.sgt_audit.specs.declared.verdict.Verdict.{Verdict}
use Rattle.sgt_audit.proofs.OneFault.{first_fault-excluded}
use Rattle.sgt_audit.proofs.Faultless.{valid-no_fault}
use Rattle.sgt_certify.proofs.making.is_valid.Goals as goal

pub returns-in-Ok-No-clause-no : goal.returns-in-Ok-No-clause-no
returns-in-Ok-No-clause-no c _ valid =
    let text = c.args.text.now in
    let told : IsVerdict text c.in-Ok-No.field-0 = rw c.in-Ok-No.is at c.audit_bytes.ensures.verdict in
    let first = subst (λ (v : Verdict). IsVerdict text v) c.in-Ok-No.field-0-is told in
    first_fault-excluded text _ _ first (valid-no_fault text valid.0 valid.1 valid.2)
