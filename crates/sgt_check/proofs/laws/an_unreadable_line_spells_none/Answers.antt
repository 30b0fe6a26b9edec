use Rattle.sgt_check.proofs.NoHistory.{none-told}
use Rattle.sgt_check.proofs.laws.an_unreadable_line_spells_none.Goals as goal

pub returns : goal.returns
returns c = λ bytes line fault ids h a s. none-told bytes line fault ids h a s
