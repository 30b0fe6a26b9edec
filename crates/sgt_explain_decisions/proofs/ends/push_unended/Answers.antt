use Rattle.std.proofs.Common.{◌++◌, codes, ap, ◌∙◌}
use Rattle.std.specs.Prelude.{string_bytes}
use Rattle.sgt_names.specs.Entry.{tx_of}
use Rattle.sgt_explain_lines.proofs.Numbering.{on-ok}
use Rattle.sgt_explain_lines.specs.Told.{shown_line}
use Rattle.sgt_explain_decisions.specs.Ends.{without_end}
use Rattle.sgt_names.proofs.Elements.{ok-taken, three-parts}
use Rattle.sgt_explain_decisions.proofs.ends.push_unended.Goals as goal

pub returns : goal.returns
returns c =
    let old = string_bytes c.args.out.now in
    let l = c.args.logged.now in
    let head = c.in_ok-push_without_end.ensures ∙ ap (λ t. old ++ without_end c.args.site t) c.tx.ensures in
    on-ok c.push_str.result _ _ (λ e. three-parts old _ _ (without_end c.args.site (tx_of l.entry)) (shown_line l) (codes "\n") _ head c.in_ok-push_logged.ensures e)
    (ok-taken c.push_str.result _ _ _ c.push_str.ensures.bytes)
