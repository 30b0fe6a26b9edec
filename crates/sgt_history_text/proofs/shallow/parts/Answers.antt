use Rattle.std.proofs.Common.{ap, arith, length, subst, sym}
use Rattle.json.proofs.Trees.{view-Array}
use Rattle.sgt_history_text.proofs.Gathered.{Gathers, gathers_end, gathers_fails, gathers_next, gathers_none}
use Rattle.sgt_history_text.proofs.shallow.parts.Goals as goal

pub items-init : goal.items-init
items-init c = (
  subst (λ vs. Gathers c.args.reader.now c.args.reader.now vs) (sym c.new-found.ensures.items)
      (gathers_none c.args.reader.now),
  omega arith,
)

pub returns-in_default-clause-read : goal.returns-in_default-clause-read
returns-in_default-clause-read c =
    let fails = rw c.in_default.is at c.in_ok-value.ensures.read in
    gathers_fails c.args.reader.now c.items.reader c.items.found.items c.items.invariant.0
    c.take_end_array.new.self c.items-test.ensures fails

pub items-preserved : goal.items-preserved
items-preserved c =
    let reads = rw c.in-Some.is at c.in_ok-value.ensures.read in (
      gathers_next c.args.reader.now c.items.reader c.items.found.items c.items.invariant.0
          c.take_end_array.new.self c.leaf.new.reader c.in-Some.value c.keep_part.new.found.items
          c.items-test.ensures reads c.in_ok-keep_part.ensures,
      omega (arith, c.leaf.ensures.fewer, ap length c.items-test.ensures.1, c.items.invariant.1),
    )

pub returns-clause-read : goal.returns-clause-read
returns-clause-read c =
    gathers_end c.args.reader.now c.items.reader c.items.found.items c.items.invariant.0
    c.take_end_array.new.self _ c.items-test.ensures (view-Array c.items.found)
