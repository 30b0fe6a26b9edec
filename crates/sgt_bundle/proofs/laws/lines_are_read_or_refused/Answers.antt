use Rattle.sgt_bundle.proofs.Answered.{read_or_refused}
use Rattle.sgt_bundle.proofs.laws.lines_are_read_or_refused.Goals as goal

pub returns : goal.returns
returns c = read_or_refused
