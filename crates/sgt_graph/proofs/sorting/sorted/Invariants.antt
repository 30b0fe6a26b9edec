use Rattle.std.proofs.Common.{◌≡◌, ◌+◌, [], sum}
use Rattle.std.specs.Ordering.{nat_cmp}
use Rattle.std.specs.BinaryHeap.{heap_items, heap_len, IsHeap}
use Rattle.sgt_graph.specs.Sorting.{numbers, IsUnderWay}
use Rattle.sgt_graph.proofs.sorting.sorted.Given as goal

abbrev pub invariant-nodes : goal.invariant-nodes
invariant-nodes l = IsUnderWay l.nodes l.fn.edges l.node l.sorting.waits.items (numbers (heap_items l.sorting.free))
    l.sorting.order.items
    × (heap_items l.sorting.free ≡ []) × IsHeap (λ x y. nat_cmp y.0 x.0) (heap_items l.sorting.free)

abbrev pub invariant-placing : goal.invariant-placing
invariant-placing l =
    IsUnderWay l.nodes l.fn.edges (l.last + 1) l.sorting.waits.items (numbers (heap_items l.sorting.free))
    l.sorting.order.items
    × IsHeap (λ x y. nat_cmp y.0 x.0) (heap_items l.sorting.free)

abbrev pub decreases-placing : goal.decreases-placing
decreases-placing l = sum l.sorting.waits.items + heap_len l.sorting.free
