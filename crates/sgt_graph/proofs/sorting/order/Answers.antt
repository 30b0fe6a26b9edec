use Rattle.std.proofs.Common.{◌≡◌, ℕ, [], List, All, sym, subst, arith, slice_index, Vec, Global}
use Rattle.std.specs.Prelude.{⊤}
use Rattle.std.proofs.lemmas.Option.{MatchOption-at_none}
use Rattle.sgt_graph.specs.Graph.{JoinsNodes}
use Rattle.sgt_graph.specs.Sorting.{IsUnderWay}
use Rattle.sgt_graph.proofs.Placed.{order-whole, waits-led}
use Rattle.sgt_graph.proofs.sorting.order.Goals as goal

pub waiting_cycle-requires : goal.waiting_cycle-requires
waiting_cycle-requires c =
    let nodes = c.args.nodes in
    let edges = c.args.edges.now in
    let order = c.in_ok-waits.field-0.order.items in
    let so = subst (λ (ws : List ℕ). IsUnderWay nodes edges nodes ws [] order) (sym c.as_slice.ensures.value)
    c.in_ok-waits.ensures in
    record {
      few = omega (arith, so.len, c.requires.few);
      ends = subst (λ (n : ℕ). All (JoinsNodes n) edges) (sym so.len) c.requires.ends;
      led = waits-led nodes edges c.as_slice.result.now order so c.requires.ends;
    }

pub returns : goal.returns
returns c =
    let nodes = c.args.nodes in
    let edges = c.args.edges.now in
    let order = c.in_ok-waits.field-0.order.items in
    let so = subst (λ (ws : List ℕ). IsUnderWay nodes edges nodes ws [] order) (sym c.as_slice.ensures.value)
    c.in_ok-waits.ensures in
    order-whole nodes edges c.as_slice.result.now order so c.requires.ends
    (MatchOption-at_none ((v : ℕ) → slice_index c.as_slice.result.now v ≡ 0) (λ (cycle : Vec ℕ Global). ⊤)
    c.in-None.is c.in_ok-cycle.ensures.none)
