use Rattle.sgt_core_model.proofs.Total.{decision-run, decision-refused}
use Rattle.sgt_core_model.proofs.laws.decisions_are_runs.Goals as goal

pub returns-clause-decided : goal.returns-clause-decided
returns-clause-decided c state tx reply d h answer = decision-run state tx reply d h answer

pub returns-clause-refused : goal.returns-clause-refused
returns-clause-refused c state tx reply d h out = decision-refused state tx reply d h out
