use Rattle.std.proofs.Common.{length}
use Rattle.sgt_audit_workers.proofs.workers.Workers.stop.Given as goal

abbrev pub decreases-judged : goal.decreases-judged
decreases-judged g l = length l.running.items
