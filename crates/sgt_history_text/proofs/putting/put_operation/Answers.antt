use Rattle.json.specs.Value.{value_view}
use Rattle.sgt_history_text.specs.Parsed.{seen_operation}
use Rattle.sgt_history_text.proofs.Appended.{put_one, put_other}
use Rattle.sgt_history_text.proofs.putting.put_operation.Goals as goal

pub returns-in_default-operation-clause-put : goal.returns-in_default-operation-clause-put
returns-in_default-operation-clause-put c =
    let read = rw c.in-Some.is at c.in_ok-value.ensures.read in
    put_other c.args.builder.now c.args.reader.now c.row.new.reader (value_view c.in-Some.value) read
    c.in_default-operation.ensures

pub returns-clause-put : goal.returns-clause-put
returns-clause-put c =
    let read = rw c.in-Some.is at c.in_ok-value.ensures.read in
    let o = c.in-Some-operation.operation in
    put_one c.args.builder.now c.args.reader.now c.row.new.reader (value_view c.in-Some.value) read
    c.push_operation.new.builder (seen_operation o) c.in-Some-operation.ensures.0 c.in-Some-operation.ensures.1
    c.in_ok-push_operation.ensures
