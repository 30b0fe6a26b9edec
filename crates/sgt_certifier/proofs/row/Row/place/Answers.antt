use Rattle.sgt_certifier.proofs.CountRows.{found_some}
use Rattle.sgt_certifier.proofs.row.Row.place.Goals as goal

pub returns-in-Some-clause-ok : goal.returns-in-Some-clause-ok
returns-in-Some-clause-ok c =
    rw (← c.self.view_is) (found_some _ _ _ c.self.invariant (rw c.as_slice.ensures.value at c.in-Some.ensures))
