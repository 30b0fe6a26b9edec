use Rattle.sgt_service_settle.proofs.carried.links_in.Goals as goal

pub returns : goal.returns
returns c =
    rw c.as_slice-windows.ensures.value at
    (rw c.as_slice-commits.ensures.value at
    (rw c.in_ok-handed.ensures at (rw c.as_slice.ensures.value at c.in_ok-links.ensures)))
