use Rattle.sgt_notation.specs.declared.SectionLine.TheVariants.{Final}
use Rattle.sgt_audit.specs.declared.faults.Fault.TheVariants as fault
use Rattle.sgt_audit.proofs.Least.{below-any, breaks-any, final-ended, final-value, final-kept}
use Rattle.sgt_audit.proofs.SiteStates.{at_finals}
use Rattle.sgt_audit_decisions.proofs.Loops.{refuted}
use Rattle.sgt_audit.proofs.judging.judge_final.Goals as goal

pub returns-then-not-have_all_ended : goal.returns-then-not-have_all_ended
returns-then-not-have_all_ended k rules c before log p t fits o begins =
    breaks-any rules c before (Final k.args.holding.now) fault.NotEnded (λ is. is)
    (final-ended c before k.args.holding.now log o begins
    ((k.continues_log.ensures log p).0 k.if-not-continues_log.false)
    (refuted k.have_all_ended.result (k.have_all_ended.ensures _ _ _ t) k.if-not-have_all_ended.true))

pub returns-then-not-has_value : goal.returns-then-not-has_value
returns-then-not-has_value k rules c before log p t fits o begins =
    breaks-any rules c before (Final k.args.holding.now) fault.Final (λ is. is)
    (final-value c before k.args.holding.now log o begins
    ((k.continues_log.ensures log p).0 k.if-not-continues_log.false)
    ((k.have_all_ended.ensures _ _ _ t).0 k.if-not-have_all_ended.false)
    (refuted k.has_value.result (k.has_value.ensures c.decisions log.items log.entries k.args.holding.now.item t
    (at_finals log k.args.place.now k.args.holding.now p fits)) k.if-not-has_value.true))

pub returns : goal.returns
returns k rules c before log p t fits o begins =
    below-any rules c before (Final k.args.holding.now) 17
    (final-kept c before k.args.holding.now log o begins
    ((k.continues_log.ensures log p).0 k.if-not-continues_log.false)
    ((k.have_all_ended.ensures _ _ _ t).0 k.if-not-have_all_ended.false)
    ((k.has_value.ensures c.decisions log.items log.entries k.args.holding.now.item t
    (at_finals log k.args.place.now k.args.holding.now p fits)).0 k.if-not-has_value.false))
