use Rattle.std.proofs.Common.{take}
use Rattle.std.specs.Prelude.{All}
use Rattle.sgt_service_settle.specs.private.Places.{IsShown}
use Rattle.sgt_service_settle.proofs.places.is_row_shown.Given as goal

abbrev pub invariant-loop-link : goal.invariant-loop-link
invariant-loop-link l = All (IsShown l.log) (take l.link-index l.links)
