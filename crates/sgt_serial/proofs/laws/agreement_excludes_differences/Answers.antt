use Rattle.sgt_serial.proofs.Differences.{agrees-differs}
use Rattle.sgt_serial.proofs.laws.agreement_excludes_differences.Goals as goal

pub returns : goal.returns
returns c b tx s x agrees d = agrees-differs b tx s x agrees d
