use Rattle.sgt_certifier.proofs.CountRows.{at_place}
use Rattle.sgt_certifier.proofs.row.hinted.Goals as goal

pub returns-then-is_at : goal.returns-then-is_at
returns-then-is_at c = at_place _ _ _ (c.is_at.ensures c.if-is_at.true)
