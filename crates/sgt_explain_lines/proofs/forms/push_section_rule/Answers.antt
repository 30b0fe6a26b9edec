use Rattle.std.proofs.Common.{◌++◌, inl, refl, subst}
use Rattle.sgt_explain_lines.specs.Places.{allowed_text, IsItemRule}
use Rattle.sgt_explain_lines.proofs.Numbering.{on-ok}
use Rattle.sgt_explain_lines.proofs.forms.push_section_rule.Goals as goal

pub returns-in-Some : goal.returns-in-Some
returns-in-Some c =
    let some = c.in-Some.ensures.some in
    on-ok c.push_item_rules.result _ _ (λ r. (
      r.0 ++ allowed_text c.args.section.now,
      inl (some.0, r.0, some.1, some.2, subst (λ x. IsItemRule c.args.section.now.items.items x r.0) some.3 r.1, refl),
      r.2,
    )) c.push_item_rules.ensures
