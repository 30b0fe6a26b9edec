use Rattle.sgt_explain.proofs.ShownEntries.{twice-entry, shows-repeating}
use Rattle.sgt_explain.proofs.Telling.{on-all}
use Rattle.sgt_explain.proofs.lines.tell_twice.Goals as goal

pub returns-in-Some : goal.returns-in-Some
returns-in-Some c =
    on-all _ c.push_twice.result (λ first. shows-repeating c.args.bytes.now c.args.number first c.push_twice.result
    c.in_ok-section.section c.in-Some.logged _ _
    c.in_ok-section.ensures c.in-Some.ensures c.push_twice.ensures.shown)

pub returns : goal.returns
returns c = λ first. absurd (twice-entry c.args.bytes.now c.args.number first c.in-None.ensures)
