use Rattle.std.proofs.Common.{sym, ap, ◌∙◌, ◌++◌, ◌-◌, arith, length, take, drop}
use Rattle.sgt_order.specs.Graph.{placed}
use Rattle.sgt_order.specs.private.Search.{is_marked}
use Rattle.sgt_order.proofs.Lists.{whole_rest, rest_long}
use Rattle.sgt_order.proofs.Moving.{placed_front, front_unmarked, length-placed}
use Rattle.sgt_order.proofs.placing.move_region.Goals as goal

pub append-requires : goal.append-requires
append-requires c =
    let s = c.deref.result.now in
    let first = c.args.region.now.first in
    let part = take (length s - first) (drop first s) in
    let long = ap length (c.as_slice-2.ensures.value ∙ c.place_in.ensures.items)
    ∙ length-placed (is_marked c.as_slice.result.now) part c.args.new in
    omega (
      arith,
      long,
      rest_long s first,
      ap length c.deref.ensures.value,
      c.truncate.ensures.len,
      c.truncate.ensures.capacity,
      c.requires.first,
      c.requires.room,
      c.args.order.now.ok,
    )

pub returns-clause-order : goal.returns-clause-order
returns-clause-order c =
    let s = c.deref.result.now in
    let order = c.args.order.now.items in
    let marks = c.args.region.now.marks.items in
    let first = c.args.region.now.first in
    let rest = whole_rest s first ∙ ap (drop first) c.deref.ensures.value in
    let moved = c.as_slice-2.ensures.value
    ∙ (c.place_in.ensures.items
    ∙ (ap (λ ms. placed (is_marked ms) (take (length s - first) (drop first s)) c.args.new)
    c.as_slice.ensures.value ∙ ap (λ xs. placed (is_marked marks) xs c.args.new) rest)) in
    c.append.ensures.items ∙ (ap (λ z. z ++ c.as_slice-2.result.now) c.truncate.ensures.items
    ∙ (ap (λ z. take first order ++ z) moved
    ∙ sym (placed_front (is_marked marks) order first c.args.new
    (front_unmarked first order marks c.requires.begins))))
