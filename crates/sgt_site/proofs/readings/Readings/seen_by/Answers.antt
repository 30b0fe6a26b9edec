use Rattle.std.proofs.Common.{refl, length}
use Rattle.std.proofs.lemmas.Option.{slice_get_read}
use Rattle.sgt_site.proofs.Found.{found_reading, seen-found, seen-nowhere}
use Rattle.sgt_site.proofs.LateReads.{seen-front, seen-late}
use Rattle.sgt_site.proofs.readings.Readings.seen_by.Goals as goal

pub search-requires : goal.search-requires
search-requires c = rw c.as_slice.ensures.value c.self.invariant.rising

pub returns-in-Ok : goal.returns-in-Ok
returns-in-Ok c =
    let at = rw c.as_slice.ensures.value at c.in-Ok.ensures.found in
    rw (← c.self.view_is, c.seen.ensures) (seen-front _ c.self.inside.late c.self.invariant _ _ (found_reading _ _ _ at)
    (seen-found _ _ _ _ c.self.invariant.rising at
    (slice_get_read _ (length c.self.inside.readings.items) _ _ refl at.within c.index.ensures)))

pub returns-in-Err : goal.returns-in-Err
returns-in-Err c = rw (← c.self.view_is) (seen-late _ c.self.inside.late c.self.invariant _ _ c.late_by.ensures
    (seen-nowhere _ _ _ (rw c.as_slice.ensures.value at c.in-Err.ensures.absent)))
