use Rattle.sgt_explain.proofs.ShownValues.{no-line, some-read, some-value, shows-read}
use Rattle.sgt_explain.proofs.shown.read_shown.Goals as goal

pub returns-in_default : goal.returns-in_default
returns-in_default c = λ first. no-line c.args.bytes.now c.args.number first c.in_default.ensures

pub returns-in_default-read_in_line : goal.returns-in_default-read_in_line
returns-in_default-read_in_line c =
    λ first. some-read c.args.bytes.now c.args.number first c.in-Some.line c.in-Some.ensures
    c.in_default-read_in_line.ensures

pub returns-in-Some-value_against : goal.returns-in-Some-value_against
returns-in-Some-value_against c = λ first.
    let shown = c.in-Some-value_against.ensures in
    shows-read c.args.bytes.now c.args.number first c.in-Some.line c.in-Some.ensures c.in_ok-section.section
    c.in_ok-section.ensures _ _ _
    c.in-Some-read_in_line.ensures c.in-Some-value_against.shown shown.given shown.site shown.value shown.by
    shown.listed shown.until

pub returns : goal.returns
returns c = λ first.
    some-value c.args.bytes.now c.args.number first c.in-Some.line c.in-Some.ensures c.in_ok-section.section
    c.in_ok-section.ensures _ _ _
    c.in-Some-read_in_line.ensures c.in-None.ensures.none
