use Rattle.std.proofs.Common.{inl, refl}
use Rattle.sgt_history_text.proofs.Written.{lead_none}
use Rattle.sgt_history_text.proofs.plain.past_space.Goals as goal

pub returns-in-Some : goal.returns-in-Some
returns-in-Some c = record { gap = _; is_gap = (inl refl, tt); text = c.in-Some.ensures }

pub returns-in-None : goal.returns-in-None
returns-in-None c = lead_none c.args.bytes.now c.args.from c.requires
