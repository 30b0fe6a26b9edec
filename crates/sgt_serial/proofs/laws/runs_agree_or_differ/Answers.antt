use Rattle.sgt_serial.proofs.Either.{agrees-or-differs}
use Rattle.sgt_serial.proofs.laws.runs_agree_or_differ.Goals as goal

pub returns : goal.returns
returns c b = agrees-or-differs b
