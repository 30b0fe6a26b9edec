use Rattle.std.proofs.Common.{ap, refl, sym, length}
use Rattle.std.proofs.lemmas.Option.{slice_get_read}
use Rattle.sgt_certifier.specs.Row.{or_zero}
use Rattle.sgt_certifier.proofs.CountRows.{found_here, found_gap}
use Rattle.sgt_certifier.proofs.row.Row.get.Goals as goal

pub returns-in-Ok : goal.returns-in-Ok
returns-in-Ok c =
    let found = rw c.as_slice.ensures.value at c.in-Ok.ensures.found in
    let here = slice_get_read _ (length c.self.inside.counts.items) _ _ refl found.within c.index.ensures in
    rw (← c.self.view_is) (sym (ap or_zero (found_here _ _ _ _ c.self.invariant found here)))

pub returns-in-Err : goal.returns-in-Err
returns-in-Err c =
    rw (← c.self.view_is) (sym (ap or_zero (found_gap _ _ _ (rw c.as_slice.ensures.value at c.in-Err.ensures.absent))))
