use Rattle.sgt_explain_lines.specs.Places.{no_lf_text}
use Rattle.sgt_explain_lines.proofs.Adding.{shows-alone}
use Rattle.sgt_explain_lines.proofs.Numbering.{on-ok}
use Rattle.sgt_explain_lines.proofs.Placing.{tells-alone}
use Rattle.sgt_explain_lines.proofs.forms.push_broken_off.Goals as goal

pub returns-in_ok-push_numbered-in-Some-clause-line : goal.returns-in_ok-push_numbered-in-Some-clause-line
returns-in_ok-push_numbered-in-Some-clause-line c = λ line h.
    on-ok c.push_no_lf.result _ _ (λ e. shows-alone c.args.number line c.in-Some.line.now _ _ _
    (c.in-Some.ensures.some line h) c.in_ok-push_numbered-in-Some.ensures (_, e))
    c.push_no_lf.ensures

pub returns-in_ok-push_numbered-in-Some-clause-broken : goal.returns-in_ok-push_numbered-in-Some-clause-broken
returns-in_ok-push_numbered-in-Some-clause-broken c = λ line h.
    on-ok c.push_no_lf.result _ _ (λ e. tells-alone c.args.number line c.in-Some.line.now (no_lf_text c.args.number) _
    _ _ (c.in-Some.ensures.some line h) c.in_ok-push_numbered-in-Some.ensures e)
    c.push_no_lf.ensures

pub returns-in_ok-push_numbered-in-Some-clause-missing : goal.returns-in_ok-push_numbered-in-Some-clause-missing
returns-in_ok-push_numbered-in-Some-clause-missing c = λ upto. absurd (c.in-Some.ensures.none upto)

pub returns-in-None-clause-line : goal.returns-in-None-clause-line
returns-in-None-clause-line c = λ line h. absurd (c.in-None.ensures.some line h)

pub returns-in-None-clause-broken : goal.returns-in-None-clause-broken
returns-in-None-clause-broken c = λ line h. absurd (c.in-None.ensures.some line h)
