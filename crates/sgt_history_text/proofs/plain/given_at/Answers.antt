use Rattle.sgt_history_text.proofs.PlainLines.{given_none, given_there}
use Rattle.sgt_history_text.proofs.plain.given_at.Goals as goal

pub returns-in_default : goal.returns-in_default
returns-in_default c = given_none c.args.bytes.now c.args.from c.requires

pub returns : goal.returns
returns c = given_there c.args.bytes.now c.args.from _ _ _ c.in-Some.ensures c.in_ok-value.ensures
