use Rattle.sgt_page.proofs.Cutting.{strip-text}
use Rattle.sgt_page.proofs.cut.behind.Goals as goal

pub returns : goal.returns
returns c = strip-text c.args.word.now c.args.text.now c.strip_prefix.result c.strip_prefix.ensures.cases
