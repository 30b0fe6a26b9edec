use Rattle.std.proofs.Common.{arith}
use Rattle.sgt_order.proofs.Covering.{bits_among}
use Rattle.sgt_order.proofs.row.are_among.Goals as goal

pub returns : goal.returns
returns c told = bits_among _ _ (λ j within. c.loop-at.invariant j (omega arith))
