use Rattle.sgt_history_text.proofs.PlainLines.{end_there}
use Rattle.sgt_history_text.proofs.plain.end_at.Goals as goal

pub returns : goal.returns
returns c =
    end_there c.args.bytes.now _ c.args.from _ _ _ _ _ _ _ _ c.in_ok-comma_at.ensures c.in_ok-at.ensures
    c.past_space.ensures c.in_ok-commits.ensures c.in_ok-comma_at-2.ensures c.in_ok-at-2.ensures c.past_space-2.ensures
    c.in_ok-to.ensures
