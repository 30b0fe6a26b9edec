use Rattle.sgt_certify_logs.proofs.Stuck.{stuck-none}
use Rattle.sgt_certify_logs.proofs.laws.stuck_logs_have_no_certificate.Goals as goal

pub returns : goal.returns
returns c = stuck-none
