use Rattle.sgt_explain.proofs.Telling.{on-ok, tells-ranks}
use Rattle.sgt_explain.proofs.shown.push_rank_order_of.Goals as goal

pub returns-in-Ok : goal.returns-in-Ok
returns-in-Ok c =
    on-ok c.push_ranks_shown.result (tells-ranks c.args.bytes.now c.args.number c.in-Ok.found _ _ c.in-Ok.ensures)
    c.push_ranks_shown.ensures
