use Rattle.std.proofs.Common.{◌≤◌}
use Rattle.std.specs.Prelude.{All, take}
use Rattle.sgt_history_faults.specs.Mine.{IsItemBelow}
use Rattle.sgt_history_faults.proofs.collecting.items_of.Given as goal

abbrev pub invariant-loop-operation : goal.invariant-loop-operation
invariant-loop-operation l = record {
  all : All (IsItemBelow l.items) (take l.operation-index l.operations);
}
