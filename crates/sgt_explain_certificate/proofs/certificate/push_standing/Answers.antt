use Rattle.std.proofs.Common.{subst}
use Rattle.sgt_explain_lines.proofs.Numbering.{on-ok}
use Rattle.sgt_explain_certificate.specs.Columns.{IsToldByte}
use Rattle.sgt_explain_certificate.proofs.certificate.push_standing.Goals as goal

pub returns : goal.returns
returns c = on-ok c.push_if_byte.result _ _ (λ t. (t.0, subst (λ b. IsToldByte b t.0) c.byte_at.ensures t.1, t.2))
    c.push_if_byte.ensures
