use Rattle.sgt_site.proofs.Touching.{as_they_are, room-kept, room-here, there-here}
use Rattle.sgt_site.proofs.cells.prepare_for.Goals as goal

pub search-requires : goal.search-requires
search-requires c = rw c.as_slice.ensures.value c.requires

pub prepare_at-requires : goal.prepare_at-requires
prepare_at-requires c = rw c.as_slice.ensures.value at c.in-Some.ensures.found.within

pub returns-in-Some-clause-same : goal.returns-in-Some-clause-same
returns-in-Some-clause-same c =
    room-kept _ _ _ _ c.requires (rw c.as_slice.ensures.value at c.in-Some.ensures.found) c.prepare_at.ensures.same

pub returns-in-Some-clause-there : goal.returns-in-Some-clause-there
returns-in-Some-clause-there c =
    λ hit. there-here _ c.args.tx c.args.touch.now _
    (rw c.as_slice.ensures.value at c.in-Some.ensures.found) (c.prepare_at.ensures.seen hit)

pub returns-in-Some-clause-room : goal.returns-in-Some-clause-room
returns-in-Some-clause-room c =
    λ hit. room-here _ _ _ _ c.requires (rw c.as_slice.ensures.value at c.in-Some.ensures.found)
    (c.prepare_at.ensures.room hit)

pub returns-in-None-clause-same : goal.returns-in-None-clause-same
returns-in-None-clause-same c = as_they_are _
