use Rattle.sgt_names.proofs.Places.{All_at}
use Rattle.sgt_site.proofs.Touching.{notes-here, notes-nowhere}
use Rattle.sgt_site.specs.private.Cells.{Contents}
use Rattle.std.proofs.Common.{◌≡◌, ◌<◌}
use Rattle.sgt_site.proofs.cells.note_in.Goals as goal

pub note_at-requires-clause-within : goal.note_at-requires-clause-within
note_at-requires-clause-within c = rw c.as_slice.ensures.value at c.in-Some.ensures.found.within

pub note_at-requires-clause-room : goal.note_at-requires-clause-room
note_at-requires-clause-room c = λ d here.
    All_at (λ (e : Contents). e.item ≡ c.args.touch.now.item → 0 < e.has_room) _ _ d c.requires.room here
    ((rw c.as_slice.ensures.value at c.in-Some.ensures.found).is d here)

pub returns-in-Some-clause-noted : goal.returns-in-Some-clause-noted
returns-in-Some-clause-noted c =
    notes-here _ _ _ _ _ c.requires.rising (rw c.as_slice.ensures.value at c.in-Some.ensures.found)
    c.note_at.ensures.noted

pub returns-in-None-clause-noted : goal.returns-in-None-clause-noted
returns-in-None-clause-noted c = notes-nowhere _ _ _ (rw c.as_slice.ensures.value at c.in-None.ensures.absent)
