use Rattle.serde_json.specs.View.{view}
use Rattle.sgt_bundle.proofs.Answered.{answers-ok, answers-refuses, only-answer, each-fault, unread}
use Rattle.sgt_bundle.proofs.line.read_value.Goals as goal

pub returns-in-Ok-clause-ok : goal.returns-in-Ok-clause-ok
returns-in-Ok-clause-ok c = answers-ok c.judge.result (view c.in-Ok.value) c.args.line.now c.judge.ensures

pub returns-in-Ok-clause-only : goal.returns-in-Ok-clause-only
returns-in-Ok-clause-only c =
    only-answer c.judge.result c.args.line.now
    (answers-ok c.judge.result (view c.in-Ok.value) c.args.line.now c.judge.ensures)
    (answers-refuses c.judge.result (view c.in-Ok.value) c.args.line.now c.judge.ensures c.in-Ok.ensures.ok)

pub returns-in-Ok-clause-refuses : goal.returns-in-Ok-clause-refuses
returns-in-Ok-clause-refuses c =
    answers-refuses c.judge.result (view c.in-Ok.value) c.args.line.now c.judge.ensures c.in-Ok.ensures.ok

pub returns-in-Ok-clause-each : goal.returns-in-Ok-clause-each
returns-in-Ok-clause-each c =
    each-fault c.judge.result c.args.line.now
    (answers-ok c.judge.result (view c.in-Ok.value) c.args.line.now c.judge.ensures)
    (answers-refuses c.judge.result (view c.in-Ok.value) c.args.line.now c.judge.ensures c.in-Ok.ensures.ok)

pub returns-else-is_memory-clause-only : goal.returns-else-is_memory-clause-only
returns-else-is_memory-clause-only c =
    λ d h is. absurd (unread c.args.line.now d (c.in-Err.ensures.err (λ m. let t = c.if-is_memory.ensures.1 m in
    cc t)) h is)
