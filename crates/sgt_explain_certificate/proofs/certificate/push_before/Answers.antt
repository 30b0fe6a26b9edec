use Rattle.std.proofs.Common.{codes, inr, subst}
use Rattle.sgt_explain_lines.proofs.Numbering.{on-ok}
use Rattle.sgt_explain_certificate.specs.Columns.{ShowsBetween}
use Rattle.sgt_explain_certificate.proofs.certificate.push_before.Goals as goal

pub returns-else-at-eq0 : goal.returns-else-at-eq0
returns-else-at-eq0 c = on-ok c.push_between.result _ _ (λ t. (
  t.0,
  inr (c.if-at-eq0.false, λ within. subst (λ bytes. ShowsBetween (codes " behind `") bytes (codes "`") t.0) (c.bytes_before.ensures within) t.1),
  t.2,
)) c.push_between.ensures
