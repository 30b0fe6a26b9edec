use Rattle.sgt_history_evidence.proofs.Renamed.{cycle-back, cycle-on}
use Rattle.sgt_history_evidence.proofs.laws.names_change_no_cycle.Goals as goal

pub returns : goal.returns
returns g c f k h apart graph = (cycle-on f k h apart graph, cycle-back f k h apart graph)
