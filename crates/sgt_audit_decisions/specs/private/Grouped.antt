-- The steps of walks, with a group for each site.
use Rattle.std.specs.Prelude.{◌≡◌, ℕ, ◌↔◌, List, Contains, Some, slice_get}
use Rattle.sgt_audit_decisions.specs.declared.steps.Edge.{Edge}
use Rattle.sgt_audit_decisions.specs.declared.steps.Group.{Group}

-- each group has the steps at its site
abbrev pub AreGrouped : List Edge → List Group → Type 0
AreGrouped edges groups = (site : ℕ) (g : Group) → slice_get groups site ≡ Some g
    → (e : Edge) → Contains g.edges.items e ↔ (Contains edges e × (e.step.label.site ≡ site))
