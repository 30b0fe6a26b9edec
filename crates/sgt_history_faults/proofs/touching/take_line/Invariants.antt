use Rattle.std.proofs.Common.{◌≡◌, ◌+◌, length}
use Rattle.sgt_history_faults.specs.Mine.{AreMine, StampedTo}
use Rattle.sgt_history_faults.specs.Touch.{TakesLine, TellsContradiction}
use Rattle.sgt_history_faults.proofs.touching.take_line.Given as goal

abbrev pub invariant-loop-place : goal.invariant-loop-place
invariant-loop-place l = record {
  size : length l.mine ≡ length l.fn.mine;
  mine : AreMine (l.whose.line + 1) l.operations l.place l.mine;
  stamped : StampedTo (l.whose.line + 1) l.mine;
  touches : TakesLine l.whose l.operations l.place l.fn.touches.items l.touches.items;
  contradiction : TellsContradiction l.operations l.place l.contradicted;
}
