use Rattle.std.proofs.Common.{ℕ, ◌∙◌, List, sym, subst}
use Rattle.sgt_graph.specs.Graph.{Goes, IsCycle}
use Rattle.sgt_graph.specs.Nearest.{AreFalling, FallBelow}
use Rattle.sgt_graph.proofs.Cycles.{none-below-candidate, none-of-falling}
use Rattle.sgt_names.proofs.Elements.{none-weaker}
use Rattle.sgt_graph.proofs.shown.least_candidate.Goals as goal

pub least_level-requires : goal.least_level-requires
least_level-requires c =
    subst (AreFalling c.args.edges.now) (c.as_slice.ensures.value ∙ sym c.as_slice-2.ensures.value)
    (c.are_falling.ensures c.if-not-are_falling.false)

pub returns-clause-some : goal.returns-clause-some
returns-clause-some c =
    let edges = c.args.edges.now in
    let falls = subst (AreFalling edges) (c.as_slice.ensures.value ∙ sym c.as_slice-2.ensures.value)
    (c.are_falling.ensures c.if-not-are_falling.false) in
    none-below-candidate edges c.as_slice-2.result.now c.least_level.result falls c.least_level.ensures.some

pub returns-clause-none : goal.returns-clause-none
returns-clause-none c =
    let edges = c.args.edges.now in
    let ranks = c.as_slice-2.result.now in
    let falls = subst (AreFalling edges) (c.as_slice.ensures.value ∙ sym c.as_slice-2.ensures.value)
    (c.are_falling.ensures c.if-not-are_falling.false) in
    none-weaker c.least_level.result ((v : ℕ) → FallBelow edges ranks v)
    ((other : List ℕ) → IsCycle (Goes edges) other → ⊥) (λ all. none-of-falling edges ranks falls all)
    c.least_level.ensures.none
