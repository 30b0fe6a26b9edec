use Rattle.std.proofs.Common.{◌++◌, refl, subst}
use Rattle.sgt_names.proofs.Elements.{two-parts}
use Rattle.sgt_explain_lines.specs.Places.{section_head, IsSectionRule}
use Rattle.sgt_explain_lines.proofs.Adding.{adds-more, numbered-adds, shows-line}
use Rattle.sgt_explain_lines.proofs.Numbering.{on-ok}
use Rattle.sgt_explain_lines.proofs.Placing.{tells-line}
use Rattle.sgt_explain_lines.proofs.forms.push_section.Goals as goal

pub returns-clause-line : goal.returns-clause-line
returns-clause-line c = λ line h.
    on-ok c.push_section_rule.result _ _ (λ more. shows-line _ _ line c.text_at-line.result.now _ _ _ _
    (adds-more _ _ _ c.in_ok-push_words.ensures.begins c.in_ok-push_line_before.ensures.behind)
    (c.text_at-line.ensures line h) c.in_ok-push_numbered.ensures (more.0, more.2))
    c.push_section_rule.ensures

pub returns-clause-before : goal.returns-clause-before
returns-clause-before c = λ line less h.
    on-ok c.push_section_rule.result _ _ (λ more. shows-line _ _ line line _ _ _ _ c.in_ok-push_words.ensures.begins
    refl (c.in_ok-push_line_before.ensures.line line less h)
    (adds-more _ _ _ (numbered-adds c.args.number c.text_at-line.result.now _ _ c.in_ok-push_numbered.ensures)
    (more.0, more.2))) c.push_section_rule.ensures

pub returns-clause-text : goal.returns-clause-text
returns-clause-text c = λ line h.
    let before = c.in_ok-push_line_before.ensures.text in
    let same = c.text_at-line.ensures line h in
    on-ok c.push_section_rule.result _ _ (λ more. (
      before.0,
      more.0,
      before.1,
      subst (λ l. IsSectionRule c.args.section.now l more.0) same more.1,
      tells-line (section_head ++ before.0) c.args.number line c.text_at-line.result.now more.0 _ _ _ _
          (two-parts _ _ section_head before.0 _ c.in_ok-push_words.ensures.text before.2)
          same c.in_ok-push_numbered.ensures more.2,
    )) c.push_section_rule.ensures
