use Rattle.sgt_bundle.proofs.Reading.{certificate-one}
use Rattle.sgt_bundle.proofs.laws.certificates_have_one_reading.Goals as goal

pub returns : goal.returns
returns c = certificate-one
