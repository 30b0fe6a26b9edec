use Rattle.sgt_history_text.specs.Plain.{TextOperation}
use Rattle.sgt_history_text.proofs.PlainLines.{operation_there}
use Rattle.sgt_history_text.proofs.plain.operation_at.Goals as goal

pub returns : goal.returns
returns c =
    let o : TextOperation = record {
      version = c.in_ok-version.version;
      item = c.in_ok-item.item;
      kind = c.in_ok-kind.kind;
      value = c.in_ok-value.value;
    } in
    operation_there c.args.bytes.now o c.args.from _ _ _ _ _ _ _ c.in_ok-kind.ensures c.in_ok-comma_at.ensures
    c.in_ok-item.ensures c.in_ok-comma_at-2.ensures c.in_ok-version.ensures
    (c.may_have.ensures.0 c.if-not-may_have.false) c.in_ok-value.ensures c.in_ok-to.ensures
