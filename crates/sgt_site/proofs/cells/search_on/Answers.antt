use Rattle.std.proofs.Common.{refl}
use Rattle.sgt_site.proofs.Found.{at-place}
use Rattle.sgt_site.proofs.cells.search_on.Goals as goal

pub returns-then-is_at-clause-found : goal.returns-then-is_at-clause-found
returns-then-is_at-clause-found c = at-place _ _ _ (c.if-is_at.ensures refl)
