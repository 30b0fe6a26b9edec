use Rattle.sgt_history_kept.proofs.Rows.{none-join}
use Rattle.sgt_history_kept.proofs.drawing.drawn.Goals as goal

pub returns : goal.returns
returns c =
    c.draw_ends.ensures
    (c.draw_begins.ensures
    (c.draw_sessions.ensures
    (c.draw_conflicts.ensures (none-join c.args.layout.nodes c.new-edges.result.items c.new-edges.ensures.items))))
