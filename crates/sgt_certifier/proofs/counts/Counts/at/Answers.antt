use Rattle.sgt_certifier.proofs.CountRows.{none-rises}
use Rattle.sgt_certifier.proofs.counts.Counts.at.Goals as goal

pub returns-in-None-clause-rising : goal.returns-in-None-clause-rising
returns-in-None-clause-rising c = none-rises
