use Rattle.sgt_audit_chain.proofs.Excluded.{fault-excluded}
use Rattle.sgt_audit_chain.proofs.laws.faults_exclude_chains.Goals as goal

pub returns : goal.returns
returns c = fault-excluded
