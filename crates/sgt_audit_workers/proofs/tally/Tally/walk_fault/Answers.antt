use Rattle.sgt_audit_workers.proofs.OneMore.{misses}
use Rattle.sgt_audit_workers.proofs.tally.Tally.walk_fault.Goals as goal

pub returns-clause-some : goal.returns-clause-some
returns-clause-some c second cert logs more is each =
    misses second cert logs c.args.self.now is each more c.if-self.false
