use Rattle.sgt_notation.proofs.Fronts.{passed-next}
use Rattle.sgt_notation.proofs.laws.held_lines_come_next.Goals as goal

pub returns : goal.returns
returns c = passed-next
