use Rattle.sgt_explain.proofs.ShownEntries.{item-entry, shows-unlisted}
use Rattle.sgt_explain.proofs.Telling.{on-all}
use Rattle.sgt_explain.proofs.lines.tell_item.Goals as goal

pub returns-in-Some : goal.returns-in-Some
returns-in-Some c =
    on-all _ c.push_item.result (λ first. shows-unlisted c.args.bytes.now c.args.number first c.push_item.result
    c.in_ok-section.section c.in-Some.logged _ _
    c.in_ok-section.ensures c.in-Some.ensures c.push_item.ensures.shown)

pub returns : goal.returns
returns c = λ first. absurd (item-entry c.args.bytes.now c.args.number first c.in-None.ensures)
