use Rattle.sgt_history_text.proofs.Written.{lead_comma}
use Rattle.sgt_history_text.proofs.plain.comma_at.Goals as goal

pub returns : goal.returns
returns c = lead_comma c.args.bytes.now c.args.from _ _ c.in_ok-at.ensures c.past_space.ensures
