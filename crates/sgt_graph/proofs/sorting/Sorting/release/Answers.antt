use Rattle.std.proofs.Common.{◌≡◌, ◌+◌, ◌-◌, length, get_or, slice_index, arith, refl, sym, subst, sum, inl, inr}
use Rattle.std.specs.Ordering.{nat_cmp}
use Rattle.std.specs.BinaryHeap.{heap_items, IsHeap}
use Rattle.std.proofs.lemmas.List.{get_or_read}
use Rattle.sgt_graph.specs.declared.sorting.Sorting.{Sorting}
use Rattle.sgt_graph.specs.Sorting.{numbers}
use Rattle.sgt_graph.proofs.Releasing.{IsReleasing, releasing-kept, releasing-freed, target-waits, pushed-counts, pushed-length}
use Rattle.sgt_graph.proofs.sorting.Sorting.release.Goals as goal
use Rattle.sgt_graph.proofs.sorting.Sorting.release.Goals.{then-left-eq0+then-target-last+in_ok-push, else-left-eq0, else-left-eq0-via-then-left-eq0+else-target-last, else-left-eq0-via-else-left-eq0}

pub index-requires : goal.index-requires
index-requires c =
    let told =
    target-waits _ _ c.releasing.target-index _ _ _ _ _ (get_or c.args.targets.now c.releasing.target-index 0)
    c.releasing.invariant.0 c.requires.waiting c.releasing-test.true refl in
    omega (arith, told.1, c.releasing.self.waits.ok.0)

pub overflow_sub-left : goal.overflow_sub-left
overflow_sub-left c =
    let b = get_or c.args.targets.now c.releasing.target-index 0 in
    let told = target-waits _ _ c.releasing.target-index _ _ _ _ _ b c.releasing.invariant.0 c.requires.waiting
    c.releasing-test.true refl in
    let read = get_or_read c.releasing.self.waits.items b c.index.result.now told.1 c.index.ensures 0 in
    omega (arith, told.0, read)

pub index_mut-requires : goal.index_mut-requires
index_mut-requires c =
    let told =
    target-waits _ _ c.releasing.target-index _ _ _ _ _ (get_or c.args.targets.now c.releasing.target-index 0)
    c.releasing.invariant.0 c.requires.waiting c.releasing-test.true refl in
    omega (arith, told.1, c.releasing.self.waits.ok.0)

pub releasing-preserved : goal.releasing-preserved
releasing-preserved c =
    let b = get_or c.args.targets.now c.releasing.target-index 0 in
    let told = target-waits _ _ c.releasing.target-index _ _ _ _ _ b c.releasing.invariant.0 c.requires.waiting
    c.releasing-test.true refl in
    let read = get_or_read c.releasing.self.waits.items b c.index.result.now told.1 c.index.ensures 0 in
    let was : slice_index c.releasing.self.waits.items b ≡ (c.index.result.now - 1) + 1 = omega (arith, told.0, read) in
    let limit = c.args.last + 1 in
    let targets = c.args.targets.now in
    let k = c.releasing.target-index in
    let old = c.args.self.now in
    let now = c.releasing.self in
    let most = sum old.waits.items + length (numbers (heap_items old.free)) in
    let n = c.index.result.now - 1 in
    let P : Sorting
    → Type 0 = λ s. IsReleasing limit targets (k + 1) old.waits.items s.waits.items (numbers (heap_items s.free))
    s.order.items most
    × IsHeap (λ x y. nat_cmp y.0 x.0) (heap_items s.free) × (s.order ≡ old.order) in
    elim c.if-left-eq0.branch [
      | then-left-eq0+then-target-last+in_ok-push w ↦ subst P (sym w.self-is) (
        releasing-freed limit targets k old.waits.items now.waits.items (numbers (heap_items now.free))
            (numbers (heap_items w.push.new.self)) now.order.items most b n
            c.releasing.invariant.0 c.releasing-test.true refl told.1 was w.if-left-eq0.true
            (omega (arith, w.if-target-last.true))
            (pushed-counts b (heap_items now.free) (heap_items w.push.new.self) w.in_ok-push.ensures.permutation)
            (pushed-length b (heap_items now.free) (heap_items w.push.new.self) w.in_ok-push.ensures.permutation),
        w.in_ok-push.ensures.heap_order c.releasing.invariant.1,
        c.releasing.invariant.2,
      )
      | else-left-eq0 w ↦ subst P (sym w.self-is) (
        releasing-kept limit targets k old.waits.items now.waits.items (numbers (heap_items now.free)) now.order.items
            most b n
            c.releasing.invariant.0 c.releasing-test.true refl told.1 was (elim w.else-left-eq0.branch [
              | else-left-eq0-via-then-left-eq0+else-target-last v ↦ inr (omega (arith, v.if-target-last.false))
              | else-left-eq0-via-else-left-eq0 v ↦ inl v.if-left-eq0.false
            ]),
        c.releasing.invariant.1,
        c.releasing.invariant.2,
      )
    ]
