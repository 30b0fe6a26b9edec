use Rattle.sgt_certify.proofs.Made.{faulty-answer}
use Rattle.sgt_certify.proofs.engine.fault_answer.Goals as goal

pub returns : goal.returns
returns c bytes first = faulty-answer bytes _ c.args.first.line c.args.first.fault first c.in_ok-fault_line.ensures
