use Rattle.std.proofs.Common.{refl}
use Rattle.sgt_history_text.specs.Parsed.{seen_operation}
use Rattle.sgt_history_text.proofs.Grown.{built_operation}
use Rattle.sgt_history_text.proofs.building.push_operation.Goals as goal

pub returns : goal.returns
returns c = λ ids h begun built.
    built_operation c.args.builder.now _ ids h begun built c.in_ok-operation.operation (seen_operation c.args.lent.now)
    (c.in_ok-operation.ensures.numbered built.items built.values built.items_kept built.values_kept) refl
    c.push.ensures.closed c.in_ok-push.ensures.open
