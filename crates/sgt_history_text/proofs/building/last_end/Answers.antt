use Rattle.sgt_history_text.proofs.Reopened.{last_end-none, last_end-some}
use Rattle.sgt_history_text.proofs.building.last_end.Goals as goal

pub returns-in-Some : goal.returns-in-Some
returns-in-Some c = last_end-some c.args.lines.now c.in-Some.line.now c.in-Some.ensures.value

pub returns-in-None : goal.returns-in-None
returns-in-None c = last_end-none c.args.lines.now c.in-None.ensures.value
