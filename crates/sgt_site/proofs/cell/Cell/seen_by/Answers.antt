use Rattle.sgt_site.proofs.cell.Cell.seen_by.Goals as goal

pub returns : goal.returns
returns c = rw (← c.self.view_is) c.seen_by.ensures
