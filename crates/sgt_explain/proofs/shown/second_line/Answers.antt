use Rattle.std.proofs.Common.{inl, inr, refl}
use Rattle.sgt_explain.proofs.SecondLine.{cut-line, last-line, last-there, line-there, no-line}
use Rattle.sgt_explain.proofs.shown.second_line.Goals as goal

pub returns-in_default-clause-only : goal.returns-in_default-clause-only
returns-in_default-clause-only c = λ line at. absurd (no-line c.args.bytes.now line at c.in_default.ensures.none)

pub returns-in_default-clause-there : goal.returns-in_default-clause-there
returns-in_default-clause-there c = inl refl

pub returns-in-Some-split_line-clause-only : goal.returns-in-Some-split_line-clause-only
returns-in-Some-split_line-clause-only c = λ line at.
    cut-line c.args.bytes.now line _ _ c.in-Some-split_line.line.now _ at c.in-Some.ensures.some.0
    c.in-Some.ensures.some.1 c.in-Some-split_line.ensures.some.0 c.in-Some-split_line.ensures.some.1

pub returns-in-Some-split_line-clause-there : goal.returns-in-Some-split_line-clause-there
returns-in-Some-split_line-clause-there c = inr (line-there c.args.bytes.now _ _ c.in-Some-split_line.line.now _
    c.in-Some.ensures.some.0 c.in-Some.ensures.some.1 c.in-Some-split_line.ensures.some.0
    c.in-Some-split_line.ensures.some.1)

pub returns-in-None-clause-only : goal.returns-in-None-clause-only
returns-in-None-clause-only c = λ line at. last-line c.args.bytes.now line _ c.in-Some.behind.now at
    c.in-Some.ensures.some.0 c.in-Some.ensures.some.1 c.in-None.ensures.none

pub returns-in-None-clause-there : goal.returns-in-None-clause-there
returns-in-None-clause-there c =
    last-there c.args.bytes.now _ c.in-Some.behind.now c.in-Some.ensures.some.0 c.in-Some.ensures.some.1
    c.in-None.ensures.none
