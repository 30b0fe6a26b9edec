use Rattle.std.proofs.Common.{sym, subst}
use Rattle.sgt_history.specs.declared.named.Graph.TheVariants.{Whole}
use Rattle.sgt_history_faults.specs.Judged.{IsFaultlessBy}
use Rattle.sgt_graph.specs.Ordered.{IsOrdered}
use Rattle.sgt_history_verdict.specs.Decided.{IsFoundIn}
use Rattle.sgt_history_verdict.proofs.Least.{edges-join, found-cycle, serial-by}
use Rattle.sgt_history_verdict.proofs.deciding.decide_faultless.Goals as goal

pub order-requires-clause-ends : goal.order-requires-clause-ends
order-requires-clause-ends c =
    let (h, from) = c.requires.from in
    let has = c.edges_of-edges.ensures h (subst (IsFaultlessBy h) (sym c.as_slice-2.ensures.value) from.faultless) in
    edges-join h c.args.nodes c.edges_of-edges.result Whole c.edges_in.result.now has from.size c.edges_in.ensures

pub least_graph-requires-clause-found : goal.least_graph-requires-clause-found
least_graph-requires-clause-found c =
    let (h, from) = c.requires.from in
    let has = c.edges_of-edges.ensures h (subst (IsFaultlessBy h) (sym c.as_slice-2.ensures.value) from.faultless) in
    let is = subst (IsOrdered c.args.nodes c.edges_in.result.now) c.in-Cycle.is c.in_ok-order.ensures in
    let cycle = c.in-Cycle.field-0.items in (
      h,
      record {
        conflicts = has;
        size = from.size;
        has =
            (cycle, found-cycle h c.edges_of-edges.result Whole c.edges_in.result.now has c.edges_in.ensures cycle is);
      },
    )

pub cyclic-requires-clause-found : goal.cyclic-requires-clause-found
cyclic-requires-clause-found c =
    let (h, from) = c.requires.from in
    let has = c.edges_of-edges.ensures h (subst (IsFaultlessBy h) (sym c.as_slice-2.ensures.value) from.faultless) in
    let is = subst (IsOrdered c.args.nodes c.edges_in.result.now) c.in-Cycle.is c.in_ok-order.ensures in
    let cycle = c.in-Cycle.field-0.items in
    let found : IsFoundIn h c.args.nodes c.edges_of-edges.result =
    record {
      conflicts = has;
      size = from.size;
      has =
          (cycle, found-cycle h c.edges_of-edges.result Whole c.edges_in.result.now has c.edges_in.ensures cycle is);
    } in
    (h, found, c.in_ok-graph-in-Cycle.ensures h found)

pub returns-in-Order : goal.returns-in-Order
returns-in-Order c = λ h from.
    let has = c.edges_of-edges.ensures h (subst (IsFaultlessBy h) (sym c.as_slice-2.ensures.value) from.faultless) in
    let is = subst (IsOrdered c.args.nodes c.edges_in.result.now) c.in-Order.is c.in_ok-order.ensures in
    serial-by h c.args.nodes c.args.touches.items c.edges_of-edges.result c.edges_in.result.now c.in-Order.order.items
    from has c.edges_in.ensures is

pub returns-in_ok-cyclic-in-Cycle : goal.returns-in_ok-cyclic-in-Cycle
returns-in_ok-cyclic-in-Cycle c = λ h from.
    let has = c.edges_of-edges.ensures h (subst (IsFaultlessBy h) (sym c.as_slice-2.ensures.value) from.faultless) in
    let is = subst (IsOrdered c.args.nodes c.edges_in.result.now) c.in-Cycle.is c.in_ok-order.ensures in
    let cycle = c.in-Cycle.field-0.items in
    let found : IsFoundIn h c.args.nodes c.edges_of-edges.result =
    record {
      conflicts = has;
      size = from.size;
      has =
          (cycle, found-cycle h c.edges_of-edges.result Whole c.edges_in.result.now has c.edges_in.ensures cycle is);
    } in
    c.in_ok-cyclic-in-Cycle.ensures h from.faultless found (c.in_ok-graph-in-Cycle.ensures h found)
