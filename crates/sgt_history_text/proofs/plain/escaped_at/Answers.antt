use Rattle.std.proofs.Common.{[]}
use Rattle.sgt_history_text.proofs.PlainTexts.{escape_last, escape_more}
use Rattle.sgt_history_text.proofs.plain.escaped_at.Goals as goal

pub loop-init : goal.loop-init
loop-init c = ([], c.in_ok-at.ensures)

pub returns-in-Some : goal.returns-in-Some
returns-in-Some c =
    escape_last c.args.bytes.now c.args.from c.loop.at c.bare_end-end.result c.loop.invariant c.bare_end-end.ensures.behind
    c.bare_end-end.ensures.within c.bare_end-end.ensures.bare c.in-Some.to c.in-Some.ensures

pub loop-preserved : goal.loop-preserved
loop-preserved c =
    escape_more c.args.bytes.now c.args.from c.loop.at c.bare_end-end.result c.loop.invariant c.bare_end-end.ensures.behind
    c.bare_end-end.ensures.within c.bare_end-end.ensures.bare c.in_ok-at-2.at c.in_ok-at-2.ensures
