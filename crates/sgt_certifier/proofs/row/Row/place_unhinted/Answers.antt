use Rattle.sgt_certifier.proofs.CountRows.{found_some, tried-err, tried-kept, tried-ok, tried-rises, tried-same}
use Rattle.sgt_certifier.proofs.row.Row.place_unhinted.Goals as goal

pub returns-in-Ok-clause-ok : goal.returns-in-Ok-clause-ok
returns-in-Ok-clause-ok c = found_some _ _ _ c.self.invariant (rw c.as_slice.ensures.value at c.in-Ok.ensures.found)

pub invariant_of-self-in-Err : goal.invariant_of-self-in-Err
invariant_of-self-in-Err c =
    let gap = rw c.as_slice.ensures.value at c.in-Err.ensures.absent in
    tried-rises _ _ _ _ gap c.place_at.result c.place_at.ensures.ok c.place_at.ensures.err c.self.invariant

pub returns-in-Err-clause-same : goal.returns-in-Err-clause-same
returns-in-Err-clause-same c =
    let gap = rw c.as_slice.ensures.value at c.in-Err.ensures.absent in
    rw (← c.self.view_is) (tried-same _ _ _ _ gap c.place_at.result c.place_at.ensures.ok c.place_at.ensures.err)

pub returns-in-Err-clause-kept : goal.returns-in-Err-clause-kept
returns-in-Err-clause-kept c =
    let gap = rw c.as_slice.ensures.value at c.in-Err.ensures.absent in
    rw (← c.self.view_is) (tried-kept _ _ _ _ gap c.place_at.result c.place_at.ensures.ok c.place_at.ensures.err)

pub returns-in-Err-clause-ok : goal.returns-in-Err-clause-ok
returns-in-Err-clause-ok c =
    let gap = rw c.as_slice.ensures.value at c.in-Err.ensures.absent in
    tried-ok _ _ _ _ gap c.place_at.result c.place_at.ensures.ok

pub returns-in-Err-clause-err : goal.returns-in-Err-clause-err
returns-in-Err-clause-err c =
    let gap = rw c.as_slice.ensures.value at c.in-Err.ensures.absent in
    rw (← c.self.view_is) (tried-err _ c.place_at.new.counts.items _ _ gap c.place_at.result)
