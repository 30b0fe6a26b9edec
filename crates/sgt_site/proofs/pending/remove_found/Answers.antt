use Rattle.std.proofs.Common.{None}
use Rattle.sgt_site.proofs.PendingReads.{updated-others}
use Rattle.sgt_site.proofs.pending.remove_found.Goals as goal

pub returns-clause-others : goal.returns-clause-others
returns-clause-others c = updated-others c.args.reads.now c.remove.new.self c.args.tx None c.remove.ensures.updates
