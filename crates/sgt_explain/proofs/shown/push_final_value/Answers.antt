use Rattle.sgt_explain.proofs.Telling.{on-ok, tells-final}
use Rattle.sgt_explain.proofs.shown.push_final_value.Goals as goal

pub returns-in-Ok : goal.returns-in-Ok
returns-in-Ok c =
    on-ok c.push_final_shown.result (tells-final c.args.bytes.now c.args.number c.in-Ok.found _ _ c.in-Ok.ensures)
    c.push_final_shown.ensures
