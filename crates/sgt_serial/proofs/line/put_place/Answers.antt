use Rattle.std.proofs.Common.{◌≤◌, ◌<◌, [], ◌∷◌, length, sym, subst, arith}
use Rattle.std.specs.Fmt.{decimal}
use Rattle.std.proofs.lemmas.Fmt.{length-decimal-le}
use Rattle.sgt_names.specs.Name.{Name, IsName}
use Rattle.sgt_serial.proofs.line.put_place.Goals as goal

name-short : (x : Name) → IsName x → length x ≤ 16
name-short [] is = absurd is
name-short (c ∷ cs) is = let short = is.2 in omega (arith, short)

pub write_digits-requires : goal.write_digits-requires
write_digits-requires c =
    let name : length c.as_bytes.result.now ≤ 16 =
    subst (λ (x : Name). length x ≤ 16) (sym c.as_bytes.ensures.bytes)
    (name-short c.args.value.now.item c.as_bytes.ensures.name) in
    let small : c.from.result < 100 = omega (arith, c.from.ensures, c.number.ensures.is, c.number.ensures.in_range) in
    let short : length (decimal c.from.result) ≤ 2 =
    length-decimal-le 2 c.from.result (omega arith) small (omega (arith, small)) in
    (omega (arith, short, name, c.put_bytes-at.ensures.start), omega arith)

pub returns-clause-start : goal.returns-clause-start
returns-clause-start c =
    let name : length c.as_bytes.result.now ≤ 16 =
    subst (λ (x : Name). length x ≤ 16) (sym c.as_bytes.ensures.bytes)
    (name-short c.args.value.now.item c.as_bytes.ensures.name) in
    let small : c.from.result < 100 = omega (arith, c.from.ensures, c.number.ensures.is, c.number.ensures.in_range) in
    let short : length (decimal c.from.result) ≤ 2 =
    length-decimal-le 2 c.from.result (omega arith) small (omega (arith, small)) in
    (omega (arith, short, name, c.put_bytes-at.ensures.start), omega (arith, c.put_bytes-at.ensures.start))
