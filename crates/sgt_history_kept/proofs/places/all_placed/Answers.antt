use Rattle.sgt_history_kept.proofs.Placing.{placed-next}
use Rattle.sgt_history_kept.proofs.places.all_placed.Goals as goal

pub loop-line-preserved : goal.loop-line-preserved
loop-line-preserved c =
    let at = rw c.in-Some.is at c.place_at.ensures in
    placed-next c.args.places.now c.loop-line.line c.in-Some.field-0 c.loop-line.invariant at
