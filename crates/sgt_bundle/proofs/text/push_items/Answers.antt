use Rattle.std.proofs.Common.{arith}
use Rattle.std.proofs.Transfers.{starts_with_of_append, starts_with_trans}
use Rattle.std.proofs.lemmas.Grind.{common_steps}
use Rattle.sgt_notation.specs.Spelling.{IsHolding}
use Rattle.sgt_names.proofs.Lists.{All-next, All-whole, element_at}
use Rattle.sgt_bundle.proofs.text.push_items.Goals as goal

pub loop-item-preserved : goal.loop-item-preserved
loop-item-preserved c =
    let xs = c.args.items.now in
    let x = c.item-item.result in (
      grind (arith, common_steps),
      All-next IsHolding xs c.loop-item.item-index x
          (element_at xs c.loop-item.item-index x c.loop-item-test.true c.item-item.is)
          c.in_ok-write_section_line.ensures.in_range c.loop-item.invariant.1,
      starts_with_trans c.write_section_line.new.out.items c.loop-item.out.items c.args.out.now.items
          (starts_with_of_append c.write_section_line.new.out.items c.loop-item.out.items _ c.in_ok-write_section_line.ensures.ok)
          c.loop-item.invariant.2,
    )

pub returns-clause-in_range : goal.returns-clause-in_range
returns-clause-in_range c =
    All-whole IsHolding c.args.items.now c.loop-item.item-index (omega arith) c.loop-item.invariant.1
