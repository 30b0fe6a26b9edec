-- A graph that is made.
use Rattle.std.proofs.Common.{◌≡◌, ◌++◌, ℕ, Bool, true, false, List, codes, get_or, map, ap, refl, arith, append_assoc}
use Rattle.std.specs.List.{flat_map}
use Rattle.std.proofs.lemmas.List.Folds.{flat_map-map}
use Rattle.sgt_draw.specs.Picture.{IsBegun, foot_of, head_of}
use Rattle.sgt_history_picture.specs.Graph.{edge_text, graph_text}
use Rattle.sgt_history_picture.specs.Told.{step_of}
use Rattle.sgt_history_picture.specs.declared.told.Told.{Told}

-- what is begun as Graphviz text ends as such
pub graphed : (steps : List Told) (is_dot : Bool) (begun headed made text : List ℕ) → begun ≡ head_of true
    → headed ≡ begun ++ codes "  rankdir=LR;\n  node [shape=box];\n"
    → made ≡ headed ++ flat_map (λ t. edge_text (step_of t)) steps → IsBegun is_dot made → text ≡ made ++ foot_of is_dot
    → text ≡ graph_text (map step_of steps)
graphed steps true begun headed made text is is' is'' _ whole =
    rw (whole, is'', is', is, flat_map-map edge_text step_of steps) (simp append_assoc)
graphed steps false begun headed made text is is' is'' (parts, other) whole =
    let first : List ℕ → ℕ = λ t. get_or t 0 0 in
    let here : first made ≡ 100 = rw (is'', is', is) refl in
    let there : first made ≡ 60 = ap first other in
    absurd (omega (arith, here, there))
