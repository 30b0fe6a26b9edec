use Rattle.std.proofs.Common.{◌∙◌, ℕ, List, Option, Vec, Global, sym, subst}
use Rattle.std.specs.Prelude.{IfSome}
use Rattle.std.proofs.lemmas.Option.{IfSome_then}
use Rattle.std.proofs.lemmas.Result.{IfOk-weaker}
use Rattle.sgt_graph.specs.declared.edge.Edge.{Edge}
use Rattle.sgt_graph.specs.First.{IsFirstThrough}
use Rattle.sgt_graph.specs.Nearest.{AreClosed, AreRowsOf, IsWayHome}
use Rattle.sgt_graph.proofs.Cycles.{told-through}
use Rattle.sgt_graph.proofs.through.quick_through.Goals as goal

pub returns : goal.returns
returns c =
    let edges = c.args.edges.now in
    let node = c.args.node in
    let ahead = c.args.ways.now.ahead in
    let distances = c.as_slice-2.result.now in
    let closed = subst (AreClosed edges) (c.as_slice.ensures.value ∙ sym c.as_slice-2.ensures.value)
    (c.are_closed.ensures c.if-not-are_closed.false) in
    IfOk-weaker c.way_home.result
    (λ (found : Option (Vec ℕ Global)). IfSome found (λ cycle. (nodes : ℕ) (es : List Edge)
    → AreRowsOf nodes es ahead.starts.items ahead.targets.items → IsWayHome es distances node cycle.items))
    (λ (found : Option (Vec ℕ Global)). IfSome found (λ cycle. IsFirstThrough edges node cycle.items))
    (λ found way. told-through edges distances node found closed
    (IfSome_then found way (λ cycle w. w c.args.nodes edges c.requires)))
    c.way_home.ensures.some
