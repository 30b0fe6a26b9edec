use Rattle.std.proofs.Common.{Result, Ok, Err, refl, arith}
use Rattle.std.specs.Prelude.{OnOk}
use Rattle.sgt_bundle.specs.Text.{certificate_text}
use Rattle.sgt_bundle.proofs.Compact.{certificate-pieces}
use Rattle.sgt_bundle.proofs.OneLine.{written-no_lf}
use Rattle.sgt_bundle.proofs.line.push_certificate.Goals as goal

-- what holds where the parts are written
on_ok : {A E P Q : Type 0} (r : Result A E) → (P → Q) → OnOk r P → OnOk r Q
on_ok (Ok a) f p = f p
on_ok (Err e) f p = tt

pub returns-clause-text : goal.returns-clause-text
returns-clause-text c =
    on_ok c.push_parts.result (λ e. certificate-pieces c.args.certificate.now _ _ _ e c.decisions.ensures)
    c.push_parts.ensures.text

pub returns-clause-one_line : goal.returns-clause-one_line
returns-clause-one_line c =
    on_ok c.push_parts.result (written-no_lf c.args.certificate.now (certificate_text c.args.certificate.now) _ refl
    (omega arith) c.decisions.ensures) c.push_parts.ensures.in_range
