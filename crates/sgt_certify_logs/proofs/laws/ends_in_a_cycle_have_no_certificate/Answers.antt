use Rattle.sgt_certify_logs.proofs.Cycles.{ends-no_cycle}
use Rattle.sgt_certify_logs.proofs.laws.ends_in_a_cycle_have_no_certificate.Goals as goal

pub returns : goal.returns
returns c = ends-no_cycle
