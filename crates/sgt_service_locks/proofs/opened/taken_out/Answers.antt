use Rattle.sgt_workers.proofs.Lists.{zip_push}
use Rattle.sgt_service_locks.proofs.opened.taken_out.Goals as goal

pub loop-one-preserved : goal.loop-one-preserved
loop-one-preserved g c = rw c.in_ok-push.ensures.items (zip_push _ _ _ _ _ c.loop-one.invariant c.take.ensures)
