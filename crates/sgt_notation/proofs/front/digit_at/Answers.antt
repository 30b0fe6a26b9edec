use Rattle.std.proofs.Common.{arith}
use Rattle.sgt_notation.proofs.TwoDigits.{one-digit}
use Rattle.sgt_notation.proofs.front.digit_at.Goals as goal

pub returns : goal.returns
returns c = one-digit c.args.bytes.now c.args.from c.in_ok-to.to c.in_ok-byte.field-0.now
    (omega (arith, c.if-byte-lt48.false)) (omega (arith, c.if-byte-gt57.false)) c.in_ok-to.ensures
