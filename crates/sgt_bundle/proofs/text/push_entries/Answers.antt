use Rattle.std.proofs.Common.{arith}
use Rattle.std.proofs.Transfers.{starts_with_of_append, starts_with_trans}
use Rattle.std.proofs.lemmas.Grind.{common_steps}
use Rattle.sgt_notation.specs.Spelling.{IsEntry}
use Rattle.sgt_names.proofs.Lists.{All-next, All-whole, element_at}
use Rattle.sgt_bundle.proofs.text.push_entries.Goals as goal

pub loop-entry-preserved : goal.loop-entry-preserved
loop-entry-preserved c =
    let xs = c.args.entries.now in
    let x = c.entry-item.result in (
      grind (arith, common_steps),
      All-next IsEntry xs c.loop-entry.entry-index x
          (element_at xs c.loop-entry.entry-index x c.loop-entry-test.true c.entry-item.is)
          c.in_ok-write_section_line.ensures.in_range c.loop-entry.invariant.1,
      starts_with_trans c.write_section_line.new.out.items c.loop-entry.out.items c.args.out.now.items
          (starts_with_of_append c.write_section_line.new.out.items c.loop-entry.out.items _ c.in_ok-write_section_line.ensures.ok)
          c.loop-entry.invariant.2,
    )

pub returns-clause-in_range : goal.returns-clause-in_range
returns-clause-in_range c =
    All-whole IsEntry c.args.entries.now c.loop-entry.entry-index (omega arith) c.loop-entry.invariant.1
