use Rattle.sgt_core_model.proofs.Runs.{runs-kept}
use Rattle.sgt_core_model.proofs.Total.{allowed-answered, played}
use Rattle.sgt_core_model.proofs.laws.runs_go_on.Goals as goal

pub returns-clause-run : goal.returns-clause-run
returns-clause-run c items events = played items events

pub returns-clause-answered : goal.returns-clause-answered
returns-clause-answered c items events replies state event r allowed =
    allowed-answered state event (runs-kept items events replies state r) allowed
