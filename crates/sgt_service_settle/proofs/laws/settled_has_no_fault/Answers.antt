use Rattle.sgt_service_settle.proofs.Whole.{settled_shows}
use Rattle.sgt_service_settle.proofs.laws.settled_has_no_fault.Goals as goal

pub returns : goal.returns
returns c r f settled shown = settled_shows r f settled shown
