use Rattle.sgt_notation.proofs.OneSpelling.{entry-back, line-back}
use Rattle.sgt_notation.proofs.laws.lines_are_read_back.Goals as goal

pub returns : goal.returns
returns c = record { lines = line-back; entries = entry-back }
