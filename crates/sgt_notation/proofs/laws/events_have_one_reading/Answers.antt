use Rattle.sgt_notation.proofs.OneEvent.{event-one}
use Rattle.sgt_notation.proofs.laws.events_have_one_reading.Goals as goal

pub returns : goal.returns
returns c = event-one
