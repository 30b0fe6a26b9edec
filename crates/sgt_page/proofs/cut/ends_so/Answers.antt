use Rattle.sgt_page.proofs.Cutting.{ends-text}
use Rattle.sgt_page.proofs.cut.ends_so.Goals as goal

pub returns : goal.returns
returns c = ends-text c.ends_with.result c.args.word.now c.args.text.now c.ends_with.ensures.cases
