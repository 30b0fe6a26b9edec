use Rattle.sgt_site.proofs.cell.Cell.unread.Goals as goal

pub returns : goal.returns
returns c = rw (← c.self.view_is) c.unread.ensures
