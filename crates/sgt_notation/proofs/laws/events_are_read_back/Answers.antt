use Rattle.sgt_notation.proofs.OneEvent.{event-back}
use Rattle.sgt_notation.proofs.laws.events_are_read_back.Goals as goal

pub returns : goal.returns
returns c = event-back
