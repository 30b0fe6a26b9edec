use Rattle.sgt_notation.proofs.ScriptParts.{op-finds, op-no_aim}
use Rattle.sgt_notation.proofs.reading_scripts.find_op.Goals as goal

pub returns-in_err-place : goal.returns-in_err-place
returns-in_err-place c =
    rw c.from_residual-in_err-place.ensures (op-no_aim _ _ _ c.in_ok-letter.ensures.cases.0 c.in_err-place.ensures)

pub returns : goal.returns
returns c =
    op-finds _ _ _ (c.in_ok-place.place, c.in_ok-place.tail) _ c.in_ok-letter.ensures.cases.0 c.in_ok-place.ensures
    c.op_of.ensures.some c.op_of.ensures.none
