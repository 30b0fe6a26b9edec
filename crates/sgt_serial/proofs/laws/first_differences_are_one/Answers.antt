use Rattle.sgt_serial.proofs.Differences.{one-difference}
use Rattle.sgt_serial.proofs.laws.first_differences_are_one.Goals as goal

pub returns : goal.returns
returns c b t u r s x y d e = one-difference b t r x u s y d e
