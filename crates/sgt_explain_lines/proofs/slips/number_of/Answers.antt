use Rattle.sgt_notation.proofs.Numbers.{parsed_or_not}
use Rattle.sgt_explain_lines.proofs.slips.number_of.Goals as goal

pub returns : goal.returns
returns c =
    λ plus zero. rw c.ok.ensures.value (parsed_or_not c.args.digits.now c.parse_u64.result c.parse_u64.ensures plus
    zero)
