use Rattle.std.proofs.Common.{◌++◌, List, ℕ, sym, ◌∙◌, ap, subst}
use Rattle.sgt_bundle.specs.Text.{certificate_text}
use Rattle.sgt_notation.specs.Spelling.{HasNoLf}
use Rattle.sgt_bundle.proofs.line.to_line.Goals as goal

pub returns-clause-text : goal.returns-clause-text
returns-clause-text c = c.in_ok-push_certificate.ensures.text
    ∙ ap (λ (start : List ℕ). start ++ certificate_text c.args.certificate.now) c.new-line.ensures.items

pub returns-clause-one_line : goal.returns-clause-one_line
returns-clause-one_line c =
    let is = c.in_ok-push_certificate.ensures.text
    ∙ ap (λ (start : List ℕ). start ++ certificate_text c.args.certificate.now) c.new-line.ensures.items in
    subst HasNoLf (sym is) c.in_ok-push_certificate.ensures.one_line
