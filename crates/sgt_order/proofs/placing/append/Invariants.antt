use Rattle.std.proofs.Common.{◌≡◌, ◌++◌, take, vec_capacity}
use Rattle.sgt_order.proofs.placing.append.Given as goal

abbrev pub invariant-loop-handle : goal.invariant-loop-handle
invariant-loop-handle l = record {
  items : l.order.items ≡ l.initial.order.items ++ take l.handle-index l.members;
  capacity : vec_capacity l.order ≡ vec_capacity l.initial.order;
}
