use Rattle.sgt_core_machine.proofs.Standing.{goes_stands}
use Rattle.sgt_core_machine.proofs.driver.Core.to_decide.Goals as goal

pub invariant_of-self : goal.invariant_of-self
invariant_of-self c = goes_stands _ _ _ c.self.invariant c.to_decide.ensures
