use Rattle.std.proofs.Common.{refl}
use Rattle.sgt_bundle.specs.Text.{certificate_text}
use Rattle.sgt_audit.proofs.NextStage.{certificate-breaks}
use Rattle.sgt_audit_workers.proofs.head.head_with.Goals as goal

pub returns-in-Err : goal.returns-in-Err
returns-in-Err c spelled =
    certificate-breaks c.args.second c.args.certificate (certificate_text c.args.certificate) c.in-Err.fault spelled refl
    (rw c.in-Err.is at c.in_ok-certificate.ensures)
