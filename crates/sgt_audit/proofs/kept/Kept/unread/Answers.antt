use Rattle.sgt_audit.proofs.NextStage.{line-trails, line-unread}
use Rattle.sgt_audit_decisions.proofs.Loops.{refuted}
use Rattle.sgt_audit.proofs.kept.Kept.unread.Goals as goal

pub returns-then-is_complete : goal.returns-then-is_complete
returns-then-is_complete k l s none here = line-trails l s ((k.is_complete.ensures s here).0 k.if-is_complete.true)

pub returns-else-is_complete : goal.returns-else-is_complete
returns-else-is_complete k l s none here =
    line-unread k.args.self.now l s here
    (refuted k.is_complete.result (k.is_complete.ensures s here) k.if-is_complete.false) none
