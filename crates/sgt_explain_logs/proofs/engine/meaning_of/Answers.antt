use Rattle.sgt_explain_logs.proofs.Findings.{found-whole}
use Rattle.sgt_explain_logs.proofs.engine.meaning_of.Goals as goal

pub returns : goal.returns
returns c = found-whole c.args.bytes.now c.end_of-end.result c.args.asked c.in_ok-is_found.is_found
    (c.end_of-end.ensures c.args.bytes.now c.requires) c.in_ok-is_found.ensures
