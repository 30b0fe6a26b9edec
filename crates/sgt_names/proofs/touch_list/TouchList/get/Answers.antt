use Rattle.std.proofs.Common.{refl, sym, length}
use Rattle.std.proofs.lemmas.Option.{slice_get_read}
use Rattle.sgt_names.proofs.Touched.{touched_found, touched_none}
use Rattle.sgt_names.proofs.touch_list.TouchList.get.Goals as goal

pub returns-in-Ok : goal.returns-in-Ok
returns-in-Ok c =
    let found = rw c.as_slice.ensures.value at c.in-Ok.ensures.found in
    rw (← c.self.view_is)
    (sym (touched_found _ _ _ _ c.self.invariant.0 found
    (slice_get_read _ (length c.self.inside.touched.items) _ _ refl found.within c.index.ensures)))

pub returns-in-Err : goal.returns-in-Err
returns-in-Err c =
    rw (← c.self.view_is) (sym (touched_none _ _ _ (rw c.as_slice.ensures.value at c.in-Err.ensures.absent)))
