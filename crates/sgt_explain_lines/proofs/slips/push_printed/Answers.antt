use Rattle.sgt_explain_lines.proofs.Numbering.{on-ok}
use Rattle.sgt_explain_lines.proofs.Slipping.{printed}
use Rattle.sgt_names.proofs.Elements.{ok-taken}
use Rattle.sgt_explain_lines.proofs.slips.push_printed.Goals as goal

pub returns : goal.returns
returns c =
    on-ok c.push_str-2.result _ _
    (λ e. printed _ _ _ _ _ c.args.byte c.in_ok-push_str.ensures.bytes c.in_ok-push_char.ensures e)
    (ok-taken c.push_str-2.result _ _ _ c.push_str-2.ensures.bytes)
