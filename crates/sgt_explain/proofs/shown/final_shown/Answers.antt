use Rattle.sgt_explain.proofs.ShownValues.{no-final_line, some-final, some-final_value, shows-final}
use Rattle.sgt_explain.proofs.shown.final_shown.Goals as goal

pub returns-in_default : goal.returns-in_default
returns-in_default c = λ first. no-final_line c.args.bytes.now c.args.number first c.in_default.ensures

pub returns-in_default-final_in_line : goal.returns-in_default-final_in_line
returns-in_default-final_in_line c =
    λ first. some-final c.args.bytes.now c.args.number first c.in-Some.line c.in-Some.ensures
    c.in_default-final_in_line.ensures

pub returns-in-Some-value_against : goal.returns-in-Some-value_against
returns-in-Some-value_against c = λ first.
    let shown = c.in-Some-value_against.ensures in
    shows-final c.args.bytes.now c.args.number first c.in-Some.line c.in-Some.ensures c.in_ok-section.section
    c.in_ok-section.ensures _ _
    c.in-Some-final_in_line.ensures c.in-Some-value_against.shown shown.given shown.site shown.value shown.by
    shown.listed shown.until

pub returns : goal.returns
returns c = λ first.
    some-final_value c.args.bytes.now c.args.number first c.in-Some.line c.in-Some.ensures c.in_ok-section.section
    c.in_ok-section.ensures _ _
    c.in-Some-final_in_line.ensures c.in-None.ensures.none
