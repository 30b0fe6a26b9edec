use Rattle.std.proofs.Common.{◌≡◌, ℕ, ◌+◌, ◌<◌, List, length, get_or, slice_index, sym, ap, ◌∙◌, subst, arith, inl, inr, All}
use Rattle.std.proofs.lemmas.Bool.{cases_Bool}
use Rattle.std.proofs.lemmas.List.{length-set}
use Rattle.sgt_graph.specs.declared.edge.Edge.{Edge}
use Rattle.sgt_graph.specs.declared.homeward.TheConstants.{FAR}
use Rattle.sgt_graph.specs.Graph.{JoinsNodes}
use Rattle.sgt_graph.specs.Nearest.{AreSpread, far_of}
use Rattle.sgt_graph.proofs.Spreading.{far-fewer, spread-hits, spread-misses, spread-told}
use Rattle.sgt_graph.proofs.measuring.spread.Goals as goal
use Rattle.sgt_graph.proofs.measuring.spread.Goals.{then-distances-edge+then-distances-edge-2, else-distances-edge, else-distances-edge-via-then-distances-edge+else-distances-edge-2, else-distances-edge-via-else-distances-edge}

pub loop-edge-preserved : goal.loop-edge-preserved
loop-edge-preserved c =
    let edges = c.args.edges.now in
    let round = c.args.round in
    let old = c.args.distances.now in
    let ds = c.loop-edge.distances in
    let i = c.loop-edge.edge-index in
    let d : Edge = record { from = 0; to = 0 } in
    let e : Edge = get_or edges i d in
    let lt = c.loop-edge-test.true in
    let inv = c.loop-edge.invariant in
    let joins = c.requires.ends i d lt in
    elim c.if-distances-edge.branch [
      | then-distances-edge+then-distances-edge-2 w ↦
          let to_is : slice_index ds e.to ≡ round = omega (arith, w.if-distances-edge.true) in
          let from_is : slice_index ds e.from ≡ FAR = omega (arith, w.if-distances-edge-2.true) in
          let to_in : e.to < length ds = omega (arith, joins.1, inv.size) in
          let from_in : e.from < length ds = omega (arith, joins.0, inv.size) in
          let less = far-fewer FAR ds e.from (round + 1) from_in from_is (omega (arith, c.requires.round)) in
          record {
            size = ap length w.distances-is ∙ length-set ds e.from (round + 1) ∙ inv.size;
            spread = λ v so. subst (AreSpread edges FAR v round (i + 1) (round + 1)) (sym w.distances-is)
                (spread-hits edges FAR v round i ds d (inv.spread v so) lt c.requires.round to_is from_is to_in
                from_in);
            same = λ f. let g = sym w.found-is ∙ f in absurd cc;
            fewer = λ _. subst (λ (xs : List ℕ). far_of FAR xs < far_of FAR old) (sym w.distances-is)
                (elim (cases_Bool c.loop-edge.found) [
                  | inl t ↦ omega (arith, less, inv.fewer t)
                  | inr f ↦ omega (arith, less, ap (far_of FAR) (inv.same f))
                ]);
          }
      | else-distances-edge w ↦ record {
        size = ap length w.distances-is ∙ inv.size;
        spread = λ v so. subst (AreSpread edges FAR v round (i + 1) (round + 1)) (sym w.distances-is)
            (spread-misses edges FAR v round i ds d (inv.spread v so) lt (λ a b. elim w.else-distances-edge.branch [
              | else-distances-edge-via-then-distances-edge+else-distances-edge-2 v' ↦ omega (
                arith,
                b,
                v'.if-distances-edge-2.false,
              )
              | else-distances-edge-via-else-distances-edge v' ↦ omega (arith, a, v'.if-distances-edge.false)
            ]));
        same = λ f. w.distances-is ∙ inv.same (sym w.found-is ∙ f);
        fewer = λ t. subst (λ (xs : List ℕ). far_of FAR xs < far_of FAR old) (sym w.distances-is)
            (inv.fewer (sym w.found-is ∙ t));
      }
    ]

pub returns-clause-spread : goal.returns-clause-spread
returns-clause-spread c = λ v so.
    let inv = c.loop-edge.invariant in
    spread-told c.args.edges.now FAR v c.args.round c.loop-edge.edge-index c.args.distances.now c.loop-edge.distances
    c.loop-edge.found (inv.spread v so) c.loop-edge-test.false
    c.requires.round so inv.same (subst (λ (n : ℕ). All (JoinsNodes n) c.args.edges.now) (sym inv.size) c.requires.ends)
