use Rattle.sgt_explain.proofs.Telling.{on-ok, tells-read}
use Rattle.sgt_explain.proofs.shown.push_read_value.Goals as goal

pub returns-in-Ok : goal.returns-in-Ok
returns-in-Ok c =
    on-ok c.push_read_shown.result (tells-read c.args.bytes.now c.args.number c.in-Ok.found _ _ c.in-Ok.ensures)
    c.push_read_shown.ensures
