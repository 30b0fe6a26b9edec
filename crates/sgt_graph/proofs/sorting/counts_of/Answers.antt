use Rattle.std.proofs.Common.{◌<◌, length, get_or, arith}
use Rattle.std.proofs.lemmas.List.{get_or_read}
use Rattle.sgt_graph.proofs.Placing.{counted-none, counted-next, count-bound}
use Rattle.sgt_graph.proofs.sorting.counts_of.Goals as goal

pub counting-init : goal.counting-init
counting-init c =
    counted-none c.args.nodes c.in_ok-counts.counts.items
    (c.in_ok-counts.ensures.items_if_clones_equal (λ y same. same))

pub overflow_add-index_mut : goal.overflow_add-index_mut
overflow_add-index_mut c =
    let edges = c.args.edges.now in
    let k = c.counting.edge-index in
    let e = get_or edges k (record { from = 0; to = 0 }) in
    let small = c.requires k (record { from = 0; to = 0 }) c.counting-test.true in
    let inside : e.to < length c.counting.counts.items = omega (arith, small.1, c.counting.invariant.len) in
    let was = get_or_read c.counting.counts.items e.to c.index_mut.result.now inside c.index_mut.ensures.value 0 in
    omega (arith, was, c.counting.invariant.counts e.to, count-bound edges k e.to c.counting.auto.edge-index-end)

pub counting-preserved : goal.counting-preserved
counting-preserved c =
    counted-next c.args.nodes c.args.edges.now c.counting.edge-index c.counting.counts.items
    (record { from = 0; to = 0 }) c.index_mut.result.now c.counting.invariant c.counting-test.true
    (c.requires c.counting.edge-index (record { from = 0; to = 0 }) c.counting-test.true).1 c.index_mut.ensures.value
