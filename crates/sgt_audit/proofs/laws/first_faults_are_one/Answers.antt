use Rattle.sgt_audit.proofs.OneFault.{first_fault-one}
use Rattle.sgt_audit.proofs.laws.first_faults_are_one.Goals as goal

pub returns : goal.returns
returns c = first_fault-one
