use Rattle.std.proofs.Common.{ap, ◌∙◌, arith, length, take, length-append}
use Rattle.std.proofs.lemmas.List.{length-take-le}
use Rattle.sgt_order.proofs.placing.append.Goals as goal

pub push_reserved-requires : goal.push_reserved-requires
push_reserved-requires c =
    let n = c.loop-handle.handle-index in
    let long = ap length c.loop-handle.invariant.items
    ∙ length-append c.args.order.now.items (take n c.args.members.now) in
    omega (
      arith,
      long,
      length-take-le n c.args.members.now (omega arith),
      c.loop-handle.invariant.capacity,
      c.loop-handle.order.ok,
      c.args.order.now.ok,
    )
