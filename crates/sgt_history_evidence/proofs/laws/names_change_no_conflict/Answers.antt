use Rattle.sgt_history_evidence.proofs.Renamed.{conflict-on}
use Rattle.sgt_history_evidence.proofs.laws.names_change_no_conflict.Goals as goal

pub returns : goal.returns
returns g c f k h apart kind from to x v w conflict = conflict-on f k h apart kind from to x v w conflict
