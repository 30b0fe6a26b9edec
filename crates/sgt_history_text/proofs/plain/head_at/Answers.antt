use Rattle.sgt_history_text.proofs.PlainLines.{head_there}
use Rattle.sgt_history_text.proofs.plain.head_at.Goals as goal

pub returns : goal.returns
returns c = head_there c.args.line.now _ _ _ _ _ _ c.in_ok-at.ensures c.past_space.ensures c.in_ok-id.ensures
    c.in_ok-commits.ensures
