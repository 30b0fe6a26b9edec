use Rattle.sgt_bundle.proofs.Runs.{runs-committed}
use Rattle.sgt_bundle.proofs.laws.committed_transactions_run.Goals as goal

pub returns : goal.returns
returns c = runs-committed
