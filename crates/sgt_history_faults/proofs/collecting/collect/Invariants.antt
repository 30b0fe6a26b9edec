use Rattle.std.proofs.Common.{◌≡◌, length}
use Rattle.std.specs.Prelude.{All, take, ℕ}
use Rattle.sgt_history.specs.Cut.{end_of}
use Rattle.sgt_history.specs.History.{closed_of}
use Rattle.sgt_history_faults.specs.Collected.{IsCollected}
use Rattle.sgt_history_faults.specs.Mine.{IsItemBelow, StampedTo}
use Rattle.sgt_history_faults.proofs.collecting.collect.Given as goal

abbrev pub invariant-loop-line : goal.invariant-loop-line
invariant-loop-line l = record {
  begin : l.begin ≡ end_of 0 (take l.line l.history.lines.items);
  items : All (IsItemBelow (length l.mine)) l.history.operations.items;
  stamped : StampedTo l.line l.mine;
  collected : IsCollected (closed_of l.history) l.line (length l.mine) l.collected.touches.items l.collected.first;
}
