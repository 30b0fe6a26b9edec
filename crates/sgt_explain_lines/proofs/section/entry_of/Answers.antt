use Rattle.std.proofs.Common.{◌≡◌, Some, None, refl, sym, ◌∙◌, subst}
use Rattle.sgt_notation.proofs.OneSpelling.{line-one}
use Rattle.sgt_explain_lines.specs.Numbered.{entry_in, site_behind}
use Rattle.sgt_explain_lines.proofs.section.entry_of.Goals as goal

pub returns-in-Site-clause-spelled : goal.returns-in-Site-clause-spelled
returns-in-Site-clause-spelled c = λ read one e.
    let is = c.in-Ok.ensures in
    let same = line-one c.in-Ok.read read is.0 one (sym is.1 ∙ e) in
    subst (λ r. (None ≡ entry_in r) × (c.number.result ≡ site_behind c.args.site.now r)) (sym c.in-Site.is
    ∙ same) (refl, c.number.ensures.is)

pub returns-in-Logged-clause-spelled : goal.returns-in-Logged-clause-spelled
returns-in-Logged-clause-spelled c = λ read one e.
    let is = c.in-Ok.ensures in
    let same = line-one c.in-Ok.read read is.0 one (sym is.1 ∙ e) in
    subst (λ r. (Some c.in-Logged.entry ≡ entry_in r) × (c.args.site.now ≡ site_behind c.args.site.now r))
    (sym c.in-Logged.is ∙ same) (refl, refl)
