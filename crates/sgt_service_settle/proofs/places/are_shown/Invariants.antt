use Rattle.std.proofs.Common.{ℕ, ◌<◌}
use Rattle.sgt_service_settle.specs.declared.link.Link.{Link as ALink}
use Rattle.sgt_service_settle.specs.private.Words.{At}
use Rattle.sgt_service_settle.specs.private.Places.{IsShown}
use Rattle.sgt_service_settle.proofs.places.are_shown.Given as goal

abbrev pub invariant-loop-at : goal.invariant-loop-at
invariant-loop-at l = (k n : ℕ) (link : ALink) → k < l.at → At l.rows k n link → IsShown l.log link
