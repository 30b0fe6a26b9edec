use Rattle.std.proofs.Common.{◌≡◌, ◌<◌, ℕ, [], ◌∷◌, take, Some}
use Rattle.std.specs.Prelude.{Any, slice_get}
use Rattle.sgt_names.specs.declared.draft.Touch.{Touch}
use Rattle.sgt_edges.specs.Edges.{HaveOwnHandles}
use Rattle.sgt_edges.specs.private.Gathered.{AddsAll, AddsOnce, IsNear, IsTooNew}
use Rattle.sgt_edges.proofs.gathered.to_neighbours.Given as goal

-- the edges so far are those of the items so far, each once, and none of those was read too new
abbrev pub invariant-loop-t : goal.invariant-loop-t
invariant-loop-t l =
    AddsAll (λ e. Any (λ t. IsNear l.site (t ∷ []) l.me e) (take l.t-index l.touched)) [] l.edges
    × (HaveOwnHandles l.site
    → AddsOnce (λ e. Any (λ t. IsNear l.site (t ∷ []) l.me e) (take l.t-index l.touched)) [] l.edges)
    × ((n : ℕ) (t : Touch) → n < l.t-index → slice_get l.touched n ≡ Some t → IsTooNew l.site t → ⊥)
