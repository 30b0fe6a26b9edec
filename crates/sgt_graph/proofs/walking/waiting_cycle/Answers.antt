use Rattle.std.proofs.Common.{◌≡◌, ℕ, slice_index, List, sym, ap, ◌∙◌, subst}
use Rattle.sgt_graph.specs.Graph.{Goes}
use Rattle.sgt_graph.specs.Walks.{IsSource}
use Rattle.sgt_graph.proofs.Trails.{cycle-weaker}
use Rattle.sgt_graph.proofs.walking.waiting_cycle.Goals as goal

pub returns-clause-some : goal.returns-clause-some
returns-clause-some c =
    let waits = c.args.waits.now in
    let edges = c.args.edges.now in
    let sources = c.as_slice.result.now in
    let R : ℕ → ℕ → Type 0 = λ a b. IsSource waits sources a b in
    let goes : (a b : ℕ) → R a b → Goes edges a b = λ a b (some, is).
    let from = c.requires.led b some in
    let led = c.in_ok-sources.ensures.sources from.0 b from.1 from.2 in
    let same : slice_index c.in_ok-sources.sources.items b ≡ a =
    ap (λ (xs : List ℕ). slice_index xs b) (sym c.as_slice.ensures.value) ∙ is in
    subst (λ (x : ℕ). Goes edges x b) same led.0 in
    cycle-weaker R (Goes edges) goes c.in_ok-cycle.cycle.items c.in_ok-cycle.ensures
