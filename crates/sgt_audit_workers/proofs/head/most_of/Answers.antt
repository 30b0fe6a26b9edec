use Rattle.std.proofs.Common.{arith, length}
use Rattle.sgt_audit_workers.proofs.Heads.{most-within}
use Rattle.sgt_audit_workers.proofs.head.most_of.Goals as goal

pub returns : goal.returns
returns c = most-within c.args.count (length c.args.line.now) c.saturating_add.result c.requires
    (omega (arith, c.saturating_add.ensures))
