use Rattle.std.proofs.Common.{◌≡◌, ◌+◌, sum, length}
use Rattle.std.specs.Ordering.{nat_cmp}
use Rattle.std.specs.BinaryHeap.{heap_items, IsHeap}
use Rattle.sgt_graph.specs.Sorting.{numbers}
use Rattle.sgt_graph.proofs.Releasing.{IsReleasing}
use Rattle.sgt_graph.proofs.sorting.Sorting.release.Given as goal

abbrev pub invariant-releasing : goal.invariant-releasing
invariant-releasing l =
    IsReleasing (l.last + 1) l.targets l.target-index l.initial.self.waits.items l.self.waits.items
    (numbers (heap_items l.self.free)) l.self.order.items
    (sum l.initial.self.waits.items + length (numbers (heap_items l.initial.self.free)))
    × IsHeap (λ x y. nat_cmp y.0 x.0) (heap_items l.self.free)
    × (l.self.order ≡ l.initial.self.order)
