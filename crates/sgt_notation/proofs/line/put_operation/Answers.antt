use Rattle.std.proofs.Common.{◌≤◌, ◌<◌, length, arith, sym, subst}
use Rattle.std.specs.Fmt.{decimal}
use Rattle.std.proofs.lemmas.Fmt.{length-decimal-le}
use Rattle.sgt_names.specs.Name.{Name}
use Rattle.sgt_names.proofs.Stored.{name-length}
use Rattle.sgt_notation.proofs.line.put_operation.Goals as goal

pub write_digits-at-requires : goal.write_digits-at-requires
write_digits-at-requires c =
    let name : length c.as_bytes.result.now ≤ 16 =
    subst (λ (x : Name). length x ≤ 16) (sym c.as_bytes.ensures.bytes)
    (name-length c.args.item.now c.as_bytes.ensures.name) in
    let small : c.from.result < 10000000000 = omega (arith, c.from.ensures, c.number.ensures.is, c.number.ensures.in_range) in
    let short : length (decimal c.from.result) ≤ 10 =
    length-decimal-le 10 c.from.result (omega arith) small (omega (arith, small)) in
    (omega (arith, short, name), omega (arith, name))

pub put_byte-requires : goal.put_byte-requires
put_byte-requires c =
    let name : length c.as_bytes.result.now ≤ 16 =
    subst (λ (x : Name). length x ≤ 16) (sym c.as_bytes.ensures.bytes)
    (name-length c.args.item.now c.as_bytes.ensures.name) in
    let small : c.from.result < 10000000000 = omega (arith, c.from.ensures, c.number.ensures.is, c.number.ensures.in_range) in
    let short : length (decimal c.from.result) ≤ 10 =
    length-decimal-le 10 c.from.result (omega arith) small (omega (arith, small)) in
    (omega (arith, short, name), omega (arith, short, name))
