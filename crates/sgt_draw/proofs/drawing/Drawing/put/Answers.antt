use Rattle.sgt_draw.proofs.Kept.{kept-more}
use Rattle.sgt_draw.proofs.drawing.Drawing.put.Goals as goal

pub invariant_of-self : goal.invariant_of-self
invariant_of-self c = kept-more _ _ _ _ _ c.self.invariant c.write.ensures.grows.1
