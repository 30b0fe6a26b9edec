use Rattle.std.proofs.Common.{refl, sym, ◌∙◌}
use Rattle.sgt_site.proofs.Found.{found_reading, seen-nowhere}
use Rattle.sgt_site.proofs.LateReads.{read-front, seen-late}
use Rattle.sgt_site.proofs.readings.Readings.unread.Goals as goal

pub search-requires : goal.search-requires
search-requires c = rw c.as_slice.ensures.value c.self.invariant.rising

pub returns-in-Ok : goal.returns-in-Ok
returns-in-Ok c =
    let at = rw c.as_slice.ensures.value at c.in-Ok.ensures.found in
    rw (← c.self.view_is)
    (λ _. read-front _ c.self.inside.late c.self.invariant _ (found_reading _ _ _ at), λ _. refl)

pub returns-in-Some : goal.returns-in-Some
returns-in-Some c =
    let tells = seen-late _ c.self.inside.late c.self.invariant _ _ c.late_by.ensures
    (seen-nowhere _ _ _ (rw c.as_slice.ensures.value at c.in-Err.ensures.absent)) in
    rw (← c.self.view_is) (λ _. (c.in-Some.field-0, (tells c.in-Some.field-0).0 c.in-Some.is), λ _. refl)

pub returns-in-None : goal.returns-in-None
returns-in-None c =
    let tells = seen-late _ c.self.inside.late c.self.invariant _ _ c.late_by.ensures
    (seen-nowhere _ _ _ (rw c.as_slice.ensures.value at c.in-Err.ensures.absent)) in
    rw (← c.self.view_is) (
      λ e. absurd cc,
      λ has. absurd (let e = sym c.in-None.is ∙ (tells has.0).1 has.1 in cc),
    )
