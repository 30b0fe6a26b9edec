use Rattle.sgt_notation.proofs.OneEvent.{event-short}
use Rattle.sgt_notation.proofs.laws.events_are_short.Goals as goal

pub returns : goal.returns
returns c = event-short
