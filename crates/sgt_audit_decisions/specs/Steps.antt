-- The steps of the walks of refused transactions.
use Rattle.std.specs.Prelude.{◌≡◌, ℕ, ◌<◌, ◌↔◌, List, [], ◌∷◌, length, All, Contains}
use Rattle.std.specs.List.{flat_map}
use Rattle.sgt_bundle.specs.declared.certificate.Step.{Step}
use Rattle.sgt_bundle.specs.declared.certificate.Decision.{Decision}
use Rattle.sgt_bundle.specs.declared.certificate.Decision.TheVariants.{Refuse}
use Rattle.sgt_audit_decisions.specs.declared.steps.Edge.{Edge}
use Rattle.sgt_audit_decisions.specs.declared.steps.Steps.{Steps}
use Rattle.sgt_audit_decisions.specs.private.Grouped.{AreGrouped}

-- the steps of a walk from a, each with the transaction that it comes from
abbrev pub edges_from : ℕ → List Step → List Edge
edges_from a [] = []
edges_from a (step ∷ steps) = record { from = a; step = step } ∷ edges_from step.to steps

abbrev pub edges_of : Decision → List Edge
edges_of (Refuse tx walk) = edges_from tx walk
edges_of _ = []

-- the steps of all walks
abbrev pub edges_in : List Decision → List Edge
edges_in decisions = flat_map edges_of decisions

-- these are the steps of all walks at the site
abbrev pub AreStepsAt : List Decision → ℕ → List Edge → Type 0
AreStepsAt decisions site here = (e : Edge)
    → Contains here e ↔ (Contains (edges_in decisions) e × (e.step.label.site ≡ site))

-- they are the steps of all walks, by their sites
pub record AreStepsOf (decisions : List Decision) (s : Steps) : Type 0 where
  pub grouped : AreGrouped (edges_in decisions) s.groups.items
  pub sites : All (λ e. e.step.label.site < length s.groups.items) (edges_in decisions)
