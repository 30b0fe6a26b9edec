use Rattle.std.proofs.Common.{arith}
use Rattle.std.proofs.lemmas.Str.Pattern.{strip_prefix_char}
use Rattle.sgt_history_text.proofs.whole.after_minus.Goals as goal

pub returns : goal.returns
returns c = strip_prefix_char 45 c.args.text.now c.strip_prefix.result c.strip_prefix.ensures.cases (omega arith)
