use Rattle.std.proofs.Common.{◌∙◌}
use Rattle.std.proofs.lemmas.Option.{same_Some}
use Rattle.sgt_explain_lines.proofs.Beside.{shows-twice}
use Rattle.sgt_explain_lines.proofs.Numbering.{on-ok}
use Rattle.sgt_explain_lines.proofs.items.push_twice.Goals as goal

pub returns-clause-shown : goal.returns-clause-shown
returns-clause-shown c = λ item is.
    on-ok c.push_repeating.result _ _ (λ more. shows-twice c.args.section.now.entries.items c.as_slice.result.now item
    c.in-Some.item _ c.site_number.result c.args.logged.now _ _ _ _ _
    c.as_slice.ensures.value (same_Some c.in-Some.item item (c.in-Some.ensures ∙ is)) c.site_number.ensures
    c.repeated-first.ensures
    c.in_ok-push_twice_head.ensures c.in_ok-push_if_there.ensures more) c.push_repeating.ensures
