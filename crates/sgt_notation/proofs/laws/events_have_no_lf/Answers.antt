use Rattle.sgt_notation.proofs.OneEvent.{event-no_lf}
use Rattle.sgt_notation.proofs.laws.events_have_no_lf.Goals as goal

pub returns : goal.returns
returns c = event-no_lf
