-- Walks back along edges.
use Rattle.std.specs.Prelude.{◌≡◌, ℕ, ◌<◌, List, [], ◌∷◌, ◌++◌, slice_index}
use Rattle.sgt_graph.specs.Graph.{IsChain}

-- the second waits, and the first is its source
abbrev pub IsSource : (waits sources : List ℕ) → ℕ → ℕ → Type 0
IsSource waits sources a b = (0 < slice_index waits b) × (slice_index sources b ≡ a)

-- each stands in the relation to the next one, and the last to the end
abbrev pub IsTrail : (ℕ → ℕ → Type 0) → List ℕ → ℕ → Type 0
IsTrail R [] end = Unit {0}
IsTrail R (a ∷ more) end = IsChain R a (more ++ end ∷ [])
