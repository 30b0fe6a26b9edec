use Rattle.sgt_audit.proofs.Verdicts.{verdict-one}
use Rattle.sgt_audit.proofs.laws.verdicts_are_one.Goals as goal

pub returns : goal.returns
returns c = verdict-one
