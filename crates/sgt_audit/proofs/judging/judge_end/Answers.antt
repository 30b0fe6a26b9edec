use Rattle.sgt_notation.specs.declared.SectionLine.TheVariants.{End}
use Rattle.sgt_audit.specs.declared.faults.Fault.TheVariants as fault
use Rattle.sgt_audit.proofs.Least.{below-any, breaks-any, end-ended, end-kept}
use Rattle.sgt_audit_decisions.proofs.Loops.{refuted}
use Rattle.sgt_audit.proofs.judging.judge_end.Goals as goal

pub returns-then-not-have_all_ended : goal.returns-then-not-have_all_ended
returns-then-not-have_all_ended k rules c before log p t o begins =
    breaks-any rules c before End fault.NotEnded (λ is. is)
    (end-ended c before log o begins ((k.continues_log.ensures log p).0 k.if-not-continues_log.false)
    (refuted k.have_all_ended.result (k.have_all_ended.ensures _ _ _ t) k.if-not-have_all_ended.true))

pub returns : goal.returns
returns k rules c before log p t o begins =
    below-any rules c before End 17
    (end-kept c before log o begins ((k.continues_log.ensures log p).0 k.if-not-continues_log.false)
    ((k.have_all_ended.ensures _ _ _ t).0 k.if-not-have_all_ended.false))
