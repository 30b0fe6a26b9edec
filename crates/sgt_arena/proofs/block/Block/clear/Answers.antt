use Rattle.sgt_arena.proofs.Places.{items_dropped}
use Rattle.sgt_arena.proofs.block.Block.clear.Goals as goal

pub invariant_of-self : goal.invariant_of-self
invariant_of-self g c = (items_dropped c.self.inside c.self.invariant c.drop_first.new.self c.drop_first.ensures).0

pub returns : goal.returns
returns g c = (items_dropped c.self.inside c.self.invariant c.drop_first.new.self c.drop_first.ensures).1
