use Rattle.std.proofs.Common.{take}
use Rattle.std.specs.Prelude.{All}
use Rattle.sgt_service.specs.Input.{IsPlaced}
use Rattle.sgt_service.proofs.taking.are_placed.Given as goal

abbrev pub invariant-loop-op : goal.invariant-loop-op
invariant-loop-op l = All (IsPlaced l.sites) (take l.op-index l.op-items)
