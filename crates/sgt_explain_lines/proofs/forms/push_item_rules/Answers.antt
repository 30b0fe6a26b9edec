use Rattle.std.proofs.Common.{subst}
use Rattle.sgt_names.proofs.Elements.{two-parts}
use Rattle.sgt_explain_lines.specs.Places.{allowed_text, IsItemRule}
use Rattle.sgt_explain_lines.proofs.Numbering.{on-ok}
use Rattle.sgt_explain_lines.proofs.forms.push_item_rules.Goals as goal

pub returns : goal.returns
returns c =
    let rule = c.in_ok-push_item_rule.ensures in
    on-ok c.push_allowed.result _ _
    (λ e. (
      rule.0,
      subst (λ is. IsItemRule is c.args.item rule.0) c.as_slice.ensures.value rule.1,
      two-parts _ _ rule.0 (allowed_text c.args.section.now) _ rule.2 e,
    )) c.push_allowed.ensures
