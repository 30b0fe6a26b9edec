use Rattle.std.proofs.Common.{take}
use Rattle.sgt_service_settle.specs.private.Index.{AreLinks}
use Rattle.sgt_service_settle.proofs.index.links_of.Given as goal

abbrev pub invariant-loop-one : goal.invariant-loop-one
invariant-loop-one l = AreLinks l.windows l.commits (take l.one-index l.handed) l.links.items
