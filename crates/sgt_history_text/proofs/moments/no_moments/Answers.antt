use Rattle.sgt_history_text.proofs.Entries.{moments-none}
use Rattle.sgt_history_text.proofs.moments.no_moments.Goals as goal

pub returns-clause-none : goal.returns-clause-none
returns-clause-none c = moments-none _ c.in_ok-new.ensures c.new.ensures.items c.new-2.ensures.items
