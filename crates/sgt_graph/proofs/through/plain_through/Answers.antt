use Rattle.std.proofs.Common.{ℕ, List, Option, Vec, Global, sym, subst}
use Rattle.std.specs.Prelude.{IfNone, IfSome}
use Rattle.std.proofs.lemmas.Option.{IfSome_then}
use Rattle.sgt_names.proofs.Elements.{if_ok_both, none-weaker}
use Rattle.sgt_graph.specs.declared.edge.Edge.{Edge}
use Rattle.sgt_graph.specs.declared.homeward.TheConstants.{FAR}
use Rattle.sgt_graph.specs.First.{TellsFirstThrough}
use Rattle.sgt_graph.specs.Nearest.{AreMeasured, AreRowsOf, IsWayHome, NoneFrom}
use Rattle.sgt_graph.proofs.Cycles.{tells-through}
use Rattle.sgt_graph.proofs.through.plain_through.Goals as goal

pub returns : goal.returns
returns c =
    let edges = c.args.edges.now in
    let node = c.args.node in
    let ahead = c.args.ahead.now in
    let distances = c.as_slice.result.now in
    let so : AreMeasured edges FAR distances node =
    subst (λ (ds : List ℕ). AreMeasured edges FAR ds node) (sym c.as_slice.ensures.value)
    c.in_ok-distances.ensures in
    if_ok_both c.way_home.result
    (λ (found : Option (Vec ℕ Global)). IfSome found (λ cycle. (nodes : ℕ) (es : List Edge)
    → AreRowsOf nodes es ahead.starts.items ahead.targets.items → IsWayHome es distances node cycle.items))
    (λ (found : Option (Vec ℕ Global)). IfNone found ((nodes : ℕ) (es : List Edge)
    → AreRowsOf nodes es ahead.starts.items ahead.targets.items → AreMeasured es FAR distances node
    → NoneFrom es node))
    (TellsFirstThrough edges node) c.way_home.ensures.some c.way_home.ensures.none
    (λ found some none. tells-through edges distances node found so.closed
    (IfSome_then found some (λ cycle way. way c.args.nodes edges c.requires.rows))
    (none-weaker found _ (NoneFrom edges node) (λ lost. lost c.args.nodes edges c.requires.rows so) none))
