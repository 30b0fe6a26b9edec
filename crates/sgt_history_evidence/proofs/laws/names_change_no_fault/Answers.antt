use Rattle.sgt_history_evidence.proofs.RenamedFlaws.{first_fault-on}
use Rattle.sgt_history_evidence.proofs.laws.names_change_no_fault.Goals as goal

pub returns : goal.returns
returns g c f k h apart line flaw place first = first_fault-on f k h apart line flaw place first
