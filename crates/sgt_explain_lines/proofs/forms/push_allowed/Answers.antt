use Rattle.std.proofs.Common.{◌++◌, ◌∙◌, ap₂}
use Rattle.std.specs.Prelude.{string_bytes}
use Rattle.sgt_explain_lines.specs.Places.{allowed_by}
use Rattle.sgt_explain_lines.proofs.Numbering.{on-ok}
use Rattle.sgt_explain_lines.proofs.forms.push_allowed.Goals as goal

pub returns : goal.returns
returns c =
    on-ok c.push_allowed_by.result _ _ (λ e. e
    ∙ ap₂ (λ site next. string_bytes c.args.out.now ++ allowed_by c.args.section.now.last site next)
    c.site_number-site.ensures c.next_final-next.ensures) c.push_allowed_by.ensures
