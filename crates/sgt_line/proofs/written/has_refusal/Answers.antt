use Rattle.sgt_line.proofs.Lines.{refusal_found}
use Rattle.sgt_line.proofs.written.has_refusal.Goals as goal

pub returns : goal.returns
returns c = refusal_found c.args.replies.now c.line_with.result c.is_some.result c.is_some.ensures c.line_with.ensures
