use Rattle.std.proofs.Common.{◌<◌, ap, arith, length}
use Rattle.sgt_history_text.proofs.Cut.{length-texts, text_at, begin-le, end-le}
use Rattle.sgt_history_text.proofs.names.Names.get.Goals as goal

pub begin-begin-requires : goal.begin-begin-requires
begin-begin-requires c =
    omega (
      arith,
      length-texts 0 c.self.inside.ends.items c.self.inside.bytes.items,
      ap length c.as_slice-ends.ensures.value,
      ap length c.self.view_is,
    )

pub bounds-ends-number : goal.bounds-ends-number
bounds-ends-number c =
    omega (
      arith,
      length-texts 0 c.self.inside.ends.items c.self.inside.bytes.items,
      ap length c.as_slice-ends.ensures.value,
      ap length c.self.view_is,
    )

pub offset_bounds-ends-number : goal.offset_bounds-ends-number
offset_bounds-ends-number c =
    omega (
      arith,
      length-texts 0 c.self.inside.ends.items c.self.inside.bytes.items,
      ap length c.as_slice-ends.ensures.value,
      ap length c.self.view_is,
      c.as_slice-ends.type_inv,
    )

pub part-requires-clause-begin : goal.part-requires-clause-begin
part-requires-clause-begin c =
    let ends = c.self.inside.ends.items in
    let there : c.args.number < length ends =
    omega (arith, length-texts 0 ends c.self.inside.bytes.items, ap length c.self.view_is) in
    rw (c.begin-begin.ensures, c.as_slice-ends.ensures.value)
    (begin-le (length c.self.inside.bytes.items) ends c.args.number c.self.invariant there)

pub part-requires-clause-end : goal.part-requires-clause-end
part-requires-clause-end c =
    let ends = c.self.inside.ends.items in
    let there : c.args.number < length ends =
    omega (arith, length-texts 0 ends c.self.inside.bytes.items, ap length c.self.view_is) in
    rw (c.as_slice.ensures.value, c.as_slice-ends.ensures.value)
    (end-le (length c.self.inside.bytes.items) 0 ends c.args.number c.self.invariant there)

pub returns : goal.returns
returns c =
    let ends = c.self.inside.ends.items in
    let there : c.args.number < length ends =
    omega (arith, length-texts 0 ends c.self.inside.bytes.items, ap length c.self.view_is) in
    rw (
      c.part.ensures,
      c.begin-begin.ensures,
      c.as_slice.ensures.value,
      c.as_slice-ends.ensures.value,
      ← c.self.view_is,
    )
    (text_at ends c.self.inside.bytes.items c.args.number there)
