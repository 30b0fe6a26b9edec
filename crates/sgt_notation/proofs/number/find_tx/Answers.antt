use Rattle.std.proofs.Common.{arith}
use Rattle.sgt_notation.specs.Spelling.{IsTx}
use Rattle.sgt_notation.proofs.Numbers.{in_range}
use Rattle.sgt_notation.proofs.number.find_tx.Goals as goal

pub returns : goal.returns
returns c =
    rw c.ok.ensures.value (in_range IsTx c.args.bytes.now _ c.new.result (λ m h. omega (arith, h))
    c.in_ok-number.ensures.0 c.in_ok-number.ensures.1 c.new.ensures)
