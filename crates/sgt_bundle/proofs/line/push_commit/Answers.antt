use Rattle.std.proofs.Common.{◌≤◌, length, arith, rules}
use Rattle.std.specs.Fmt.{decimal}
use Rattle.std.proofs.lemmas.Fmt.{length-decimal-le}
use Rattle.sgt_bundle.proofs.line.push_commit.Goals as goal

pub write_digits-at-requires : goal.write_digits-at-requires
write_digits-at-requires c =
    let rank : length (decimal c.args.rank) ≤ 20 = search (rules, length-decimal-le 20) in
    (omega (arith, rank, c.put_byte-at.ensures.start), omega (arith, c.put_byte-at.ensures.start))

pub put_bytes-at-requires : goal.put_bytes-at-requires
put_bytes-at-requires c =
    let rank : length (decimal c.args.rank) ≤ 20 = search (rules, length-decimal-le 20) in
    let start = c.write_digits-at.ensures.start in
    (omega (arith, rank, start, c.put_byte-at.ensures.start), omega (arith, start, c.put_byte-at.ensures.start))

pub write_digits-at-requires-2 : goal.write_digits-at-requires-2
write_digits-at-requires-2 c =
    let rank : length (decimal c.args.rank) ≤ 20 = search (rules, length-decimal-le 20) in
    let tx : length (decimal c.args.tx) ≤ 20 = search (rules, length-decimal-le 20) in
    let last = c.put_byte-at.ensures.start in
    let behind = c.write_digits-at.ensures.start in
    let start = c.put_bytes-at.ensures.start in
    (omega (arith, rank, tx, last, behind, start), omega (arith, last, behind, start, c.put_bytes-at.array_long))

pub put_bytes-at-requires-2 : goal.put_bytes-at-requires-2
put_bytes-at-requires-2 c =
    let rank : length (decimal c.args.rank) ≤ 20 = search (rules, length-decimal-le 20) in
    let tx : length (decimal c.args.tx) ≤ 20 = search (rules, length-decimal-le 20) in
    let last = c.put_byte-at.ensures.start in
    let behind = c.write_digits-at.ensures.start in
    let middle = c.put_bytes-at.ensures.start in
    let start = c.write_digits-at-2.ensures.start in
    (omega (arith, rank, tx, last, behind, middle, start), omega (arith, last, behind, middle, start))
