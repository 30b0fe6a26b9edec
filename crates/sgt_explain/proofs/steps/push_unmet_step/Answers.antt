use Rattle.sgt_explain.proofs.Telling.{on-ok, tells-step}
use Rattle.sgt_explain.proofs.steps.push_unmet_step.Goals as goal

pub returns-in-Ok : goal.returns-in-Ok
returns-in-Ok c =
    on-ok c.push_step_shown.result (tells-step c.args.bytes.now c.args.number c.in-Ok.found _ _ c.in-Ok.ensures)
    c.push_step_shown.ensures
