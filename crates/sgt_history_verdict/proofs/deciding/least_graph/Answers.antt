use Rattle.std.proofs.Common.{subst}
use Rattle.sgt_history.specs.declared.named.Graph.TheVariants.{WriteWrite, WithReads}
use Rattle.sgt_graph.specs.Ordered.{IsOrdered}
use Rattle.sgt_history_verdict.proofs.Least.{edges-join, found-cycle, none-found, least-first, least-second, least-third}
use Rattle.sgt_history_verdict.proofs.deciding.least_graph.Goals as goal

pub order-requires-clause-ends : goal.order-requires-clause-ends
order-requires-clause-ends c =
    let found = c.requires.found.1 in
    edges-join c.requires.found.0 c.args.nodes c.args.edges.now WriteWrite c.edges_in.result.now found.conflicts
    found.size c.edges_in.ensures

pub order-requires-in-Order-clause-ends : goal.order-requires-in-Order-clause-ends
order-requires-in-Order-clause-ends c =
    let found = c.requires.found.1 in
    edges-join c.requires.found.0 c.args.nodes c.args.edges.now WithReads c.edges_in-in-Order.result.now
    found.conflicts found.size c.edges_in-in-Order.ensures

pub returns-in-Cycle : goal.returns-in-Cycle
returns-in-Cycle c = λ h found.
    let is = subst (IsOrdered c.args.nodes c.edges_in.result.now) c.in-Cycle.is c.in_ok-order.ensures in
    least-first h (
      c.in-Cycle.field-0.items,
      found-cycle h c.args.edges.now WriteWrite c.edges_in.result.now found.conflicts c.edges_in.ensures
          c.in-Cycle.field-0.items is,
    )

pub returns-in-Cycle-2 : goal.returns-in-Cycle-2
returns-in-Cycle-2 c = λ h found.
    let one = subst (IsOrdered c.args.nodes c.edges_in.result.now) c.in-Order.is c.in_ok-order.ensures in
    let is = subst (IsOrdered c.args.nodes c.edges_in-in-Order.result.now) c.in-Cycle-2.is
    c.in_ok-order-in-Order.ensures in
    least-second h
    (none-found h c.args.edges.now WriteWrite c.edges_in.result.now found.conflicts c.edges_in.ensures c.args.nodes
    c.in-Order.field-0.items one) (
      c.in-Cycle-2.field-0.items,
      found-cycle h c.args.edges.now WithReads c.edges_in-in-Order.result.now found.conflicts
          c.edges_in-in-Order.ensures c.in-Cycle-2.field-0.items is,
    )

pub returns : goal.returns
returns c = λ h found.
    let one = subst (IsOrdered c.args.nodes c.edges_in.result.now) c.in-Order.is c.in_ok-order.ensures in
    let two =
    subst (IsOrdered c.args.nodes c.edges_in-in-Order.result.now) c.in-Order-2.is c.in_ok-order-in-Order.ensures in
    least-third h
    (none-found h c.args.edges.now WriteWrite c.edges_in.result.now found.conflicts c.edges_in.ensures c.args.nodes
    c.in-Order.field-0.items one)
    (none-found h c.args.edges.now WithReads c.edges_in-in-Order.result.now found.conflicts
    c.edges_in-in-Order.ensures c.args.nodes c.in-Order-2.field-0.items two)
    found.has
