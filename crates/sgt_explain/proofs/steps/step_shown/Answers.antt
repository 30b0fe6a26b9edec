use Rattle.sgt_explain.specs.Shown.{lines_before, decisions_before}
use Rattle.sgt_explain.specs.Steps.{IsUnmetStep}
use Rattle.sgt_explain.proofs.Telling.{some-and, none-and, if-both}
use Rattle.sgt_explain.proofs.ShownSteps.{shows-found}
use Rattle.sgt_explain.proofs.steps.step_shown.Goals as goal

pub returns-in-Some : goal.returns-in-Some
returns-in-Some c = λ first.
    let is = some-and (IsUnmetStep (decisions_before first.stage) (lines_before first.stage)) c.in_ok-found.found _
    c.in-Some.is (c.in_ok-found.ensures first) in
    if-both c.step_there.result (λ found some there. shows-found c.args.bytes.now c.args.number first c.in-Some.unmet
    found is there some) (c.step_there.ensures.some first is) c.step_there.ensures.there

pub returns-in-None : goal.returns-in-None
returns-in-None c = λ first.
    none-and (IsUnmetStep (decisions_before first.stage) (lines_before first.stage)) c.in_ok-found.found c.in-None.is
    (c.in_ok-found.ensures first)
