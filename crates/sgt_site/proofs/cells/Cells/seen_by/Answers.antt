use Rattle.std.proofs.Common.{refl, length}
use Rattle.std.proofs.lemmas.Option.{slice_get_read}
use Rattle.sgt_site.proofs.Found.{cell-seen, cell-nowhere}
use Rattle.sgt_site.proofs.cells.Cells.seen_by.Goals as goal

pub returns-in-Some : goal.returns-in-Some
returns-in-Some c =
    let at = rw (← c.self.view_is) at c.in-Some.ensures.found in
    let here = slice_get_read _ (length c.self.inside.cells.items) _ _ refl at.within c.index.ensures in
    rw (← c.self.view_is) (cell-seen _ _ _ _ _ c.seen_by.result c.self.invariant.rising at here c.seen_by.ensures)

pub returns-in-None : goal.returns-in-None
returns-in-None c = cell-nowhere _ _ _ c.in-None.ensures.absent
