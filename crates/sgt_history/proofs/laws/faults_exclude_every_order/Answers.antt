use Rattle.sgt_history.proofs.Excluded.{fault-excludes}
use Rattle.sgt_history.proofs.laws.faults_exclude_every_order.Goals as goal

pub returns : goal.returns
returns g c = λ h line flaw place faulty serves. fault-excludes h line flaw place faulty serves
