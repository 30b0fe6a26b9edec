use Rattle.sgt_explain_lines.specs.Places.{no_lf_text, not_there_text, truncated_head}
use Rattle.sgt_explain_lines.proofs.Adding.{adds-more, shows-among}
use Rattle.sgt_explain_lines.proofs.Numbering.{on-ok}
use Rattle.sgt_names.proofs.Elements.{three-parts}
use Rattle.sgt_explain_lines.proofs.Placing.{tells-behind}
use Rattle.sgt_explain_lines.proofs.forms.push_truncated.Goals as goal

pub returns-clause-line : goal.returns-clause-line
returns-clause-line c = λ line h.
    on-ok c.push_awaited.result _ _ (λ more. shows-among _ _ line _ _ _ _ c.in_ok-push_words.ensures.begins
    (c.in_ok-push_broken_off.ensures.line line h) (more.0, more.2)) c.push_awaited.ensures

pub returns-clause-begins : goal.returns-clause-begins
returns-clause-begins c =
    on-ok c.push_awaited.result _ _
    (λ more. adds-more _ _ _
    (adds-more _ _ _ c.in_ok-push_words.ensures.begins c.in_ok-push_broken_off.ensures.behind) (more.0, more.2))
    c.push_awaited.ensures

pub returns-clause-broken : goal.returns-clause-broken
returns-clause-broken c = λ line h.
    on-ok c.push_awaited.result _ _ (λ more. (
      more.0,
      more.1,
      tells-behind truncated_head c.args.number line (no_lf_text c.args.number) more.0 _ _ _ _
          c.in_ok-push_words.ensures.text
          (c.in_ok-push_broken_off.ensures.broken line h) more.2,
    )) c.push_awaited.ensures

pub returns-clause-missing : goal.returns-clause-missing
returns-clause-missing c = λ upto.
    on-ok c.push_awaited.result _ _ (λ more. (
      more.0,
      more.1,
      three-parts _ _ _ truncated_head (not_there_text c.args.number) more.0 _ c.in_ok-push_words.ensures.text
          (c.in_ok-push_broken_off.ensures.missing upto) more.2,
    )) c.push_awaited.ensures
