-- The transactions of a scene, gathered from decisions.
use Rattle.std.specs.Prelude.{◌≡◌, ◌++◌, ℕ, Bool, List, [], ◌∷◌, Option, Some, None, if◌then◌else◌, map, take}
use Rattle.std.specs.List.{filter_map}
use Rattle.std.specs.List.Sorted.{IsPermutation}
use Rattle.sgt_bundle.specs.Certificate.{is_refusal}
use Rattle.sgt_bundle.specs.declared.certificate.Decision.{Decision}
use Rattle.sgt_draw.specs.Private.{numbered_in, refusals_from, with_next}
use Rattle.sgt_draw.specs.Sheet.{Adds, Shown}
use Rattle.sgt_draw.specs.Wanted.{AreWanted, ranked_below, withdrawn_in}
use Rattle.sgt_draw.specs.declared.node.Node.{Node}
use Rattle.sgt_draw.specs.declared.scene.Scene.{Scene}

-- one more, if it is there and there are not yet so many
abbrev pub with_option : {A : Type 0} → ℕ → List A → Option A → List A
with_option most xs None = xs
with_option most xs (Some x) = with_next most xs x

-- the decision of this number is added
pub record AddsDecision (most number : ℕ) (d : Decision) (old new : Scene) : Type 0 where
  pub committed : new.committed.items ≡ old.committed.items ++ filter_map (numbered_in most) (d ∷ [])
  pub refusals : new.refusals.items ≡ (if is_refusal d then with_next most old.refusals.items number else old.refusals.items)
  pub withdrawn : new.withdrawn.items ≡ with_option most old.withdrawn.items (withdrawn_in d)

-- all of these decisions were added
pub record HoldsAll (most : ℕ) (decisions : List Decision) (scene : Scene) : Type 0 where
  pub committed : scene.committed.items ≡ filter_map (numbered_in most) decisions
  pub refusals : scene.refusals.items ≡ take most (refusals_from 0 decisions)
  pub withdrawn : scene.withdrawn.items ≡ take most (filter_map withdrawn_in decisions)

-- the scene of these decisions
pub record IsScene (most : ℕ) (decisions : List Decision) (scene : Scene) : Type 0 where
  pub all : IsPermutation (filter_map (numbered_in most) decisions) scene.committed.items
  pub committed : map (λ c. c.tx) scene.committed.items ≡ ranked_below most decisions
  pub refusals : scene.refusals.items ≡ take most (refusals_from 0 decisions)
  pub withdrawn : scene.withdrawn.items ≡ take most (filter_map withdrawn_in decisions)

-- the nodes that are wanted were added
abbrev pub AddsWanted : Bool → Option ℕ → List Decision → (old new : Shown) → Type 0
AddsWanted is_dot tx decisions old new =
    (nodes : List Node) × AreWanted is_dot tx decisions nodes × Adds nodes old new
