use Rattle.std.proofs.Common.{◌∙◌}
use Rattle.std.proofs.lemmas.Option.{same_Some}
use Rattle.sgt_explain_lines.proofs.Beside.{shows-nearest}
use Rattle.sgt_explain_lines.proofs.Numbering.{on-ok}
use Rattle.sgt_explain_lines.proofs.items.push_item.Goals as goal

pub returns-clause-shown : goal.returns-clause-shown
returns-clause-shown c = λ item is.
    on-ok c.push_nearest.result _ _ (λ more. shows-nearest c.args.section.now.items.items c.as_slice.result.now item
    c.in-Some.item _ c.site_number.result c.args.logged.now _ _ _ _ _ _
    c.as_slice.ensures.value (same_Some c.in-Some.item item (c.in-Some.ensures ∙ is)) c.site_number.ensures
    c.neighbours-before.ensures
    c.in_ok-push_unlisted.ensures c.in_ok-push_logged.ensures more) c.push_nearest.ensures
