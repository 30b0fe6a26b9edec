use Rattle.std.proofs.Common.{◌≤◌, ◌<◌, length, arith}
use Rattle.std.specs.Fmt.{decimal}
use Rattle.std.proofs.lemmas.Fmt.{length-decimal-le}
use Rattle.sgt_serial.proofs.line.put_operation.Goals as goal

pub write_digits-at-requires : goal.write_digits-at-requires
write_digits-at-requires c =
    let small : c.from.result < 10000000000 = omega (arith, c.from.ensures, c.number.type_inv) in
    let short : length (decimal c.from.result) ≤ 10 =
    length-decimal-le 10 c.from.result (omega arith) small (omega (arith, small)) in
    (omega (arith, short), omega arith)

pub put_byte-requires : goal.put_byte-requires
put_byte-requires c =
    let small : c.from.result < 10000000000 = omega (arith, c.from.ensures, c.number.type_inv) in
    let short : length (decimal c.from.result) ≤ 10 =
    length-decimal-le 10 c.from.result (omega arith) small (omega (arith, small)) in
    (omega (arith, short), omega (arith, short))
