use Rattle.std.proofs.Common.{refl}
use Rattle.sgt_history_text.proofs.Grown.{built_operation}
use Rattle.sgt_history_text.proofs.building.push_plain.Goals as goal

pub returns : goal.returns
returns c = λ ids h begun p built means.
    built_operation c.args.builder.now _ ids h begun built c.in_ok-operation.operation p
    (c.in_ok-operation.ensures.numbered built.items built.values p means built.items_kept built.values_kept) refl
    c.push.ensures.closed c.in_ok-push.ensures.open
