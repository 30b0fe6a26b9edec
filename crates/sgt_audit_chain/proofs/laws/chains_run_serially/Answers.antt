use Rattle.sgt_audit_chain.proofs.Row.{chain-agrees}
use Rattle.sgt_audit_chain.proofs.laws.chains_run_serially.Goals as goal

pub returns : goal.returns
returns c = chain-agrees
