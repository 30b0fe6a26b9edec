use Rattle.sgt_audit_workers.proofs.OneMore.{trails}
use Rattle.sgt_audit_workers.proofs.tally.Tally.trailing.Goals as goal

pub returns-clause-trails : goal.returns-clause-trails
returns-clause-trails c second cert logs more is each found some =
    trails second cert logs c.args.self.now is each more c.in_ok-line.line c.in_ok-line.ensures.ok found some
