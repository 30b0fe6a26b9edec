use Rattle.std.proofs.Common.{◌≡◌, ℕ, ◌∙◌, List, Option, None, Vec, Global, sym, subst, All}
use Rattle.sgt_graph.specs.declared.edge.Edge.{Edge}
use Rattle.sgt_graph.specs.Graph.{JoinsNodes}
use Rattle.sgt_graph.specs.declared.sorting.Ordered.{Ordered}
use Rattle.sgt_graph.specs.declared.sorting.Ordered.TheVariants.{Cycle}
use Rattle.sgt_graph.specs.First.{TellsFirst}
use Rattle.sgt_graph.specs.Ordered.{IsOrdered}
use Rattle.sgt_history_kept.specs.Decided.{Adds, IsInRows}
use Rattle.sgt_history_kept.proofs.Deciders.{forward-serves, plain-first, plain-forward, step-of}
use Rattle.sgt_history_kept.proofs.Leasts.{committed-least, order-least}
use Rattle.sgt_history_kept.proofs.Rows.{rows-join}
use Rattle.sgt_history_kept.proofs.plain.sorted_by_pairs.Goals as goal

pub order-requires-clause-ends : goal.order-requires-clause-ends
order-requires-clause-ends c =
    let base = subst (All (JoinsNodes c.args.lines)) (sym c.in_ok-all.ensures.items) c.requires.ends in
    subst (All (JoinsNodes c.args.lines)) (sym c.as_slice.ensures.value)
    (rows-join c.args.asked.now c.args.lines c.in_ok-all.all.items c.push_rows.new.edges.items
    c.in_ok-push_rows.ensures base)

pub returns-in-Order : goal.returns-in-Order
returns-in-Order c = λ h from.
    let a = c.args.asked.now in
    let n = c.args.lines in
    let edges = c.args.edges.now in
    let all = c.as_slice.result.now in
    let adds = subst (λ (old : List Edge). Adds (IsInRows a n n) old all) c.in_ok-all.ensures.items
    (subst (λ (new : List Edge). Adds (IsInRows a n n) c.in_ok-all.all.items new) (sym c.as_slice.ensures.value)
    c.in_ok-push_rows.ensures) in
    let o = subst (IsOrdered n all) c.in-Order.is c.in_ok-order.ensures in
    let order = c.in-Order.order.items in
    record {
      keeps = forward-serves h n edges a from order (plain-forward h n edges a from all adds order o);
      least = committed-least h n edges a from order
          (order-least h n edges a from all (step-of h n edges a from all adds) order o);
    }

-- of edges that are no order's a cycle is told
ordered-told : (nodes : ℕ) (edges : List Edge) (ordered : Ordered) (cycle : Vec ℕ Global) → ordered ≡ Cycle cycle
    → IsOrdered nodes edges ordered → (found : Option (Vec ℕ Global)) → TellsFirst edges found → found ≡ None → ⊥
ordered-told nodes edges ordered cycle is so found told none =
    let all = subst (TellsFirst edges) none told in
    all cycle.items (subst (IsOrdered nodes edges) is so)

pub shown_cycle-requires-clause-ends : goal.shown_cycle-requires-clause-ends
shown_cycle-requires-clause-ends c =
    let base = subst (All (JoinsNodes c.args.lines)) (sym c.in_ok-all.ensures.items) c.requires.ends in
    subst (All (JoinsNodes c.args.lines)) (sym c.as_slice-in-Cycle.ensures.value)
    (rows-join c.args.asked.now c.args.lines c.in_ok-all.all.items c.push_rows.new.edges.items
    c.in_ok-push_rows.ensures base)

pub unreachable-requires : goal.unreachable-requires
unreachable-requires c =
    let all = c.as_slice-in-Cycle.result.now in
    let is = subst (λ (edges : List Edge). IsOrdered c.args.lines edges c.in_ok-order.field-0)
    (c.as_slice.ensures.value ∙ sym c.as_slice-in-Cycle.ensures.value) c.in_ok-order.ensures in
    ordered-told c.args.lines all c.in_ok-order.field-0 c.in-Cycle.field-0 c.in-Cycle.is is c.in_ok-cycle-in-Cycle.field-0
    c.in_ok-cycle-in-Cycle.ensures c.in-None.is

pub returns-in-Some : goal.returns-in-Some
returns-in-Some c = λ h from.
    let a = c.args.asked.now in
    let n = c.args.lines in
    let edges = c.args.edges.now in
    let all = c.as_slice-in-Cycle.result.now in
    let adds = subst (λ (old : List Edge). Adds (IsInRows a n n) old all) c.in_ok-all.ensures.items
    (subst (λ (new : List Edge). Adds (IsInRows a n n) c.in_ok-all.all.items new) (sym c.as_slice-in-Cycle.ensures.value)
    c.in_ok-push_rows.ensures) in
    plain-first h n edges a from all adds c.in-Some.cycle.items
    (subst (TellsFirst all) c.in-Some.is c.in_ok-cycle-in-Cycle.ensures)
