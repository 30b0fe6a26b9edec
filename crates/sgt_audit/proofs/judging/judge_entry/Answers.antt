use Rattle.sgt_audit.proofs.Least.{item-broken, twice-broken, value-broken, rank-broken, block-broken, end-broken, order-broken, entry-kept}
use Rattle.sgt_audit_decisions.proofs.Loops.{refuted}
use Rattle.sgt_audit.proofs.judging.judge_entry.Goals as goal

pub returns-then-not-is_listed : goal.returns-then-not-is_listed
returns-then-not-is_listed j c before log once are p k t o begins =
    item-broken j.args.rules c before j.args.entry.now log o begins
    (refuted j.is_listed.result (j.is_listed.ensures _ _ _ _ k t) j.if-not-is_listed.true)

pub returns-then-not-is_first : goal.returns-then-not-is_first
returns-then-not-is_first j c before log once are p k t o begins =
    let known = (j.is_listed.ensures _ _ _ _ k t).0 j.if-not-is_listed.false in
    twice-broken j.args.rules c before j.args.entry.now log o begins known
    (refuted j.is_first.result (j.is_first.ensures _ _ _ k t known) j.if-not-is_first.true)

pub returns-then-not-is_legal : goal.returns-then-not-is_legal
returns-then-not-is_legal j c before log once are p k t o begins =
    let known = (j.is_listed.ensures _ _ _ _ k t).0 j.if-not-is_listed.false in
    value-broken j.args.rules c before j.args.entry.now log o begins known
    ((j.is_first.ensures _ _ _ k t known).0 j.if-not-is_first.false)
    (refuted j.is_legal.result (j.is_legal.ensures _ _ _ k t known) j.if-not-is_legal.true)

pub returns-then-not-is_in_rank : goal.returns-then-not-is_in_rank
returns-then-not-is_in_rank j c before log once are p k t o begins =
    let known = (j.is_listed.ensures _ _ _ _ k t).0 j.if-not-is_listed.false in
    rank-broken j.args.rules c before j.args.entry.now log o begins known
    ((j.is_first.ensures _ _ _ k t known).0 j.if-not-is_first.false)
    ((j.is_legal.ensures _ _ _ k t known).0 j.if-not-is_legal.false)
    (refuted j.is_in_rank.result (j.is_in_rank.ensures _ _ _ once are k t known) j.if-not-is_in_rank.true)

pub returns-then-not-continues_log : goal.returns-then-not-continues_log
returns-then-not-continues_log j c before log once are p k t o begins =
    let known = (j.is_listed.ensures _ _ _ _ k t).0 j.if-not-is_listed.false in
    block-broken j.args.rules c before j.args.entry.now log o begins known
    ((j.is_first.ensures _ _ _ k t known).0 j.if-not-is_first.false)
    ((j.is_legal.ensures _ _ _ k t known).0 j.if-not-is_legal.false)
    ((j.is_in_rank.ensures _ _ _ once are k t known).0 j.if-not-is_in_rank.false)
    (refuted j.continues_log.result (j.continues_log.ensures log p) j.if-not-continues_log.true)

pub returns-then-not-is_active : goal.returns-then-not-is_active
returns-then-not-is_active j c before log once are p k t o begins =
    let known = (j.is_listed.ensures _ _ _ _ k t).0 j.if-not-is_listed.false in
    end-broken j.args.rules c before j.args.entry.now log o begins known
    ((j.is_first.ensures _ _ _ k t known).0 j.if-not-is_first.false)
    ((j.is_legal.ensures _ _ _ k t known).0 j.if-not-is_legal.false)
    ((j.is_in_rank.ensures _ _ _ once are k t known).0 j.if-not-is_in_rank.false)
    ((j.continues_log.ensures log p).0 j.if-not-continues_log.false)
    (refuted j.is_active.result (j.is_active.ensures _ _ _ _ k t) j.if-not-is_active.true)

pub returns-then-not-is_in_order : goal.returns-then-not-is_in_order
returns-then-not-is_in_order j c before log once are p k t o begins =
    let known = (j.is_listed.ensures _ _ _ _ k t).0 j.if-not-is_listed.false in
    order-broken j.args.rules c before j.args.entry.now log o begins known
    ((j.is_first.ensures _ _ _ k t known).0 j.if-not-is_first.false)
    ((j.is_legal.ensures _ _ _ k t known).0 j.if-not-is_legal.false)
    ((j.is_in_rank.ensures _ _ _ once are k t known).0 j.if-not-is_in_rank.false)
    ((j.continues_log.ensures log p).0 j.if-not-continues_log.false)
    ((j.is_active.ensures _ _ _ _ k t).0 j.if-not-is_active.false)
    (refuted j.is_in_order.result (j.is_in_order.ensures _ _ _ once k t) j.if-not-is_in_order.true)

pub returns : goal.returns
returns j c before log once are p k t o begins =
    let known = (j.is_listed.ensures _ _ _ _ k t).0 j.if-not-is_listed.false in
    entry-kept j.args.rules c before j.args.entry.now log o begins known
    ((j.is_first.ensures _ _ _ k t known).0 j.if-not-is_first.false)
    ((j.is_legal.ensures _ _ _ k t known).0 j.if-not-is_legal.false)
    ((j.is_in_rank.ensures _ _ _ once are k t known).0 j.if-not-is_in_rank.false)
    ((j.continues_log.ensures log p).0 j.if-not-continues_log.false)
    ((j.is_active.ensures _ _ _ _ k t).0 j.if-not-is_active.false)
    ((j.is_in_order.ensures _ _ _ once k t).0 j.if-not-is_in_order.false)
