use Rattle.sgt_site.proofs.Found.{tells_item}
use Rattle.sgt_site.proofs.cells.Cells.has.Goals as goal

pub returns : goal.returns
returns c = tells_item _ _ _ c.find.result c.is_some.ensures c.find.ensures.found c.find.ensures.absent
