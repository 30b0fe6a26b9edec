use Rattle.std.proofs.Common.{◌≡◌, ◌<◌, ℕ, ◌+◌, length, slice_index, arith, ap, ◌∙◌, Vec, Global}
use Rattle.std.specs.BinaryHeap.{heap_items}
use Rattle.std.proofs.lemmas.List.{get_or_read}
use Rattle.sgt_graph.specs.Sorting.{numbers}
use Rattle.sgt_graph.proofs.Releasing.{popped-counts, pushed-counts}
use Rattle.sgt_graph.proofs.Placed.{least-of, looked-free, placeable, placed-next, row-waits, tally-moved, top-least}
use Rattle.sgt_graph.proofs.sorting.sorted.Goals as goal

pub placing-init : goal.placing-init
placing-init c =
    let old = c.nodes.sorting in
    let node = c.nodes.node in
    let inside : node < length old.waits.items = omega (arith, c.nodes.invariant.0.len, c.nodes-test.true) in
    let read = get_or_read old.waits.items node c.index.result.now inside c.index.ensures 0 in
    let none : slice_index old.waits.items node ≡ 0 = omega (arith, read, c.if-index-gt0.false) in (
      looked-free c.args.nodes c.args.edges.now node old.waits.items (numbers (heap_items old.free))
          (numbers (heap_items c.push.new.self)) old.order.items c.nodes.invariant.0 c.nodes-test.true none
          (pushed-counts node (heap_items old.free) (heap_items c.push.new.self) c.in_ok-push.ensures.permutation),
      c.in_ok-push.ensures.heap_order c.nodes.invariant.2,
    )

pub row-requires : goal.row-requires
row-requires c =
    let counts = popped-counts c.in-Some.field-0.0 (heap_items c.placing.sorting.free) (heap_items c.pop.new.self)
    c.in-Some.ensures.permutation in
    let is = placeable c.args.nodes c.args.edges.now (c.nodes.node + 1) _ _ (numbers (heap_items c.pop.new.self)) _
    c.in-Some.field-0.0 c.placing.invariant.0 counts in
    omega (arith, is.free.node, c.in_ok-rows.ensures.len)

pub release-requires-clause-waiting : goal.release-requires-clause-waiting
release-requires-clause-waiting c =
    let node = c.in-Some.field-0.0 in
    let counts =
    popped-counts node (heap_items c.placing.sorting.free) (heap_items c.pop.new.self)
    c.in-Some.ensures.permutation in
    let is = placeable c.args.nodes c.args.edges.now (c.nodes.node + 1) _ _ (numbers (heap_items c.pop.new.self)) _
    node c.placing.invariant.0 counts in
    row-waits c.args.nodes c.args.edges.now (c.nodes.node + 1) _ _ _ c.row.result.now node c.placing.invariant.0
    is.new (c.row.ensures ∙ c.in_ok-rows.ensures.are node is.free.node)

pub release-requires-clause-tally : goal.release-requires-clause-tally
release-requires-clause-tally c =
    let node = c.in-Some.field-0.0 in
    let old = c.placing.sorting in
    let counts = popped-counts node (heap_items old.free) (heap_items c.pop.new.self) c.in-Some.ensures.permutation in
    tally-moved (c.nodes.node + 1) old.waits.items (numbers (heap_items old.free))
    (numbers (heap_items c.pop.new.self)) old.order.items c.push-in-Some.new.self.items node
    c.placing.invariant.0.tally counts c.in_ok-push-2.ensures.items

pub placing-preserved : goal.placing-preserved
placing-preserved c =
    let node = c.in-Some.field-0.0 in
    let old = c.placing.sorting in
    let new = c.release.new.self in
    let counts = popped-counts node (heap_items old.free) (heap_items c.pop.new.self) c.in-Some.ensures.permutation in
    let is = placeable c.args.nodes c.args.edges.now (c.nodes.node + 1) _ _ (numbers (heap_items c.pop.new.self)) _
    node c.placing.invariant.0 counts in
    let top = c.in-Some.ensures.heap_order c.placing.invariant.1 in
    let least = least-of c.args.nodes c.args.edges.now (c.nodes.node + 1) _ _ _ node c.placing.invariant.0 is
    (top-least node (heap_items old.free) top.1) in (
      placed-next c.args.nodes c.args.edges.now (c.nodes.node + 1) old.waits.items (numbers (heap_items old.free))
          old.order.items c.row.result.now new.waits.items (numbers (heap_items new.free))
          new.order.items node c.placing.invariant.0 is least (c.row.ensures
          ∙ c.in_ok-rows.ensures.are node is.free.node)
          (ap (λ (xs : Vec ℕ Global). xs.items) c.in_ok-release.ensures.order ∙ c.in_ok-push-2.ensures.items)
          (omega (arith, c.in_ok-release.ensures.len, new.waits.ok.0, old.waits.ok.0)) c.in_ok-release.ensures.waits
          c.in_ok-release.ensures.tally,
      c.in_ok-release.ensures.heap,
    )
