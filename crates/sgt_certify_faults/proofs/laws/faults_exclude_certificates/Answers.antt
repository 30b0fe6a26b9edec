use Rattle.sgt_certify_faults.proofs.NoCertificate.{fault-none}
use Rattle.sgt_certify_faults.proofs.laws.faults_exclude_certificates.Goals as goal

pub returns : goal.returns
returns c = fault-none
