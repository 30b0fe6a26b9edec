use Rattle.std.proofs.Common.{◌<◌, length}
use Rattle.sgt_history_text.specs.Table.{AreFound, AreKnown}
use Rattle.sgt_history_text.proofs.table.place_all.Given as goal

abbrev pub invariant-loop-number : goal.invariant-loop-number
invariant-loop-number l = record {
  some : 0 < length l.slots.items;
  known : AreKnown (length l.names) l.slots.items;
  found : AreFound l.number l.names l.slots.items l.more;
}
