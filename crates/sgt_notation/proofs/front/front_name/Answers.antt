use Rattle.sgt_notation.proofs.Fronts.{leading_found}
use Rattle.sgt_notation.proofs.front.front_name.Goals as goal

pub returns-in-Some : goal.returns-in-Some
returns-in-Some c = leading_found c.args.bytes.now _ c.leading.result c.in-Some.ensures.cases c.leading.ensures.some
