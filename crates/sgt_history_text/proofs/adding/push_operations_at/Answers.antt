use Rattle.sgt_history_text.proofs.PlainPuts.{put_empty, put_last_or, put_more, put_none}
use Rattle.sgt_history_text.proofs.adding.push_operations_at.Goals as goal

pub returns-in-Some : goal.returns-in-Some
returns-in-Some c = λ ids h built. put_empty ids h c.args.bytes.now c.args.from _ _ built c.in-Some.ensures

pub loop-init : goal.loop-init
loop-init c = λ ids h built. put_none ids h c.args.bytes.now c.args.from _ c.requires built

pub push_plain-requires : goal.push_plain-requires
push_plain-requires c = (c.in-Some-operation_at.ensures.operation, c.in-Some-operation_at.ensures.means)

pub returns-in_default-operation_at : goal.returns-in_default-operation_at
returns-in_default-operation_at c = λ ids h built.
    let put = c.loop.invariant ids h built in (put.ps, put.built)

pub returns-in_default-comma_at : goal.returns-in_default-comma_at
returns-in_default-comma_at c = λ ids h built.
    put_last_or ids h c.args.bytes.now c.args.from _ _ _ _ _ (c.loop.invariant ids h built)
    c.in-Some-operation_at.ensures (λ begun p. c.in_ok-push_plain.ensures ids h begun p) _
    c.byte_at-in_default-comma_at.ensures

pub returns : goal.returns
returns c = λ ids h built. let put = c.loop.invariant ids h built in (put.ps, put.built)

pub loop-preserved : goal.loop-preserved
loop-preserved c = λ ids h built.
    put_more ids h c.args.bytes.now c.args.from _ _ _ _ _ (c.loop.invariant ids h built)
    c.in-Some-operation_at.ensures (λ begun p. c.in_ok-push_plain.ensures ids h begun p) _ c.in-Some-comma_at.ensures
