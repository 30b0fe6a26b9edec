use Rattle.sgt_certify_faults.proofs.Noted.{asked-end, asked-more, asked-none}
use Rattle.sgt_certify_faults.proofs.asked.askings_of.Goals as goal

pub lines-init : goal.lines-init
lines-init c = asked-none c.args.second c.args.bytes.now _ c.new-askings.ensures

pub lines-preserved : goal.lines-preserved
lines-preserved c =
    asked-more c.args.second c.args.bytes.now _ _ _ _ c.in-Some.line c.lines.invariant c.in-Some.ensures.some.0
    c.in-Some.ensures.some.1 c.in_ok-add_line.ensures

pub returns : goal.returns
returns c = asked-end c.args.second c.args.bytes.now _ _ c.lines.invariant c.in_default.ensures.none
