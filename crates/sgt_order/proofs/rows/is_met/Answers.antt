use Rattle.std.proofs.Common.{sym, arith, subst}
use Rattle.sgt_names.proofs.Lists.{element_at}
use Rattle.sgt_order.specs.private.Rows.{HasBit}
use Rattle.sgt_order.proofs.rows.is_met.Goals as goal

pub returns-then-len-eq-WORDS : goal.returns-then-len-eq-WORDS
returns-then-len-eq-WORDS c told =
    let row = c.in-Some.row.now in
    let found = c.in-Some.ensures.lookup in (
      row,
      element_at c.args.rows.now c.args.from.index row found.3.0 found.1,
      omega (arith, c.if-len-eq-WORDS.true, c.len.ensures, row.words.ok),
      λ i has. c.are_among.ensures told i (subst (λ ws. HasBit ws i) (sym c.as_slice.ensures.value) has),
    )
