use Rattle.sgt_explain_decisions.proofs.Telling.{sought-whole}
use Rattle.sgt_explain_decisions.proofs.fate.all_sought.Goals as goal

pub returns : goal.returns
returns c = sought-whole c.sought_in.result c.args.decisions.now c.args.bytes.now c.sought_in.ensures.found
    c.sought_in.ensures.walks c.sought_in.ensures.lines
