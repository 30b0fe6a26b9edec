use Rattle.std.proofs.Common.{take}
use Rattle.sgt_service_settle.specs.Told.{handed_in}
use Rattle.sgt_service_settle.specs.private.Sites.{IsLeastBeyond}
use Rattle.sgt_service_settle.proofs.beyond.first_beyond.Given as goal

abbrev pub invariant-loop-call : goal.invariant-loop-call
invariant-loop-call l = IsLeastBeyond l.sites (handed_in (take l.call-index l.history)) l.least
