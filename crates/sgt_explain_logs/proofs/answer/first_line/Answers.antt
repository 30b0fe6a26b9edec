use Rattle.sgt_explain_logs.proofs.Firsts.{no_has_lf}
use Rattle.sgt_explain_logs.proofs.answer.first_line.Goals as goal

pub unreachable-requires : goal.unreachable-requires
unreachable-requires c = no_has_lf c.requires.0 c.args.text.now c.requires.1 c.in-None.ensures.none
