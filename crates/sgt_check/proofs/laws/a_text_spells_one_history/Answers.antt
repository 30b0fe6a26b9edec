use Rattle.sgt_check.proofs.OneHistory.{history-one}
use Rattle.sgt_check.proofs.laws.a_text_spells_one_history.Goals as goal

pub returns : goal.returns
returns c = λ bytes ids ids' h h' a b. history-one bytes ids ids' h h' a b
