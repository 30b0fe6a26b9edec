use denote.RattleType.{RattleType}
use denote.Param.Send.{IsSync}
use Rattle.sgt_arena.proofs.Threads.{cells_sync}
use Rattle.sgt_arena.specs.contracts.cells.Cells.{the_row}

pub sync : (R : RattleType) → IsSync R → IsSync (the_row R)
sync = cells_sync
