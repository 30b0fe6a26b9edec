use Rattle.sgt_certify_logs.proofs.Cycles.{conflicts-no_cycle}
use Rattle.sgt_certify_logs.proofs.laws.conflicts_in_a_cycle_have_no_certificate.Goals as goal

pub returns : goal.returns
returns c = conflicts-no_cycle
