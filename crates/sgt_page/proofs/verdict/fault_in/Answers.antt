use Rattle.sgt_page.proofs.Cutting.{fault-split}
use Rattle.sgt_page.proofs.verdict.fault_in.Goals as goal

pub returns-in-Some : goal.returns-in-Some
returns-in-Some c =
    fault-split c.args.first.now c.in-Some.place.now c.split_once.result c.in-Some.ensures c.split_once.ensures.cases
