use Rattle.sgt_history_evidence.proofs.RenamedEvidence.{evidence-on}
use Rattle.sgt_history_evidence.proofs.laws.names_change_no_evidence.Goals as goal

pub returns : goal.returns
returns g c f k h apart line place t o is flaw evidence behind =
    evidence-on f k h apart line place t o is flaw evidence behind
