-- What the transactions of a picture are gathered from.
use Rattle.std.specs.Prelude.{◌+◌, ◌++◌, ◌==◌, nat_lt, ℕ, Bool, false, List, [], ◌∷◌, Option, Some, None, if◌then◌else◌, length, map, slice_get}
use Rattle.std.specs.List.{flat_map}
use Rattle.std.specs.List.Sorted.{IsNonDecreasingBy, IsPermutation, IsStableByKey}
use Rattle.std.specs.Option.{option_map_or}
use Rattle.std.specs.Ordering.{nat_cmp}
use Rattle.sgt_bundle.specs.Certificate.{is_refusal}
use Rattle.sgt_bundle.specs.declared.certificate.Decision.{Decision}
use Rattle.sgt_bundle.specs.declared.certificate.Decision.TheVariants.{Commit}
use Rattle.sgt_draw.specs.Node.{node}
use Rattle.sgt_draw.specs.Wanted.{cycle_nodes, refused_nodes}
use Rattle.sgt_draw.specs.declared.cycles.Cycle.{Cycle}
use Rattle.sgt_draw.specs.declared.node.Fate.{Fate}
use Rattle.sgt_draw.specs.declared.node.Fate.TheVariants.{Committed, Asked, Withdrawn}
use Rattle.sgt_draw.specs.declared.node.Node.{Node}
use Rattle.sgt_draw.specs.declared.scene.Numbered.{Numbered}
use Rattle.sgt_draw.specs.declared.scene.Scene.{Scene}

-- a committed transaction with its rank, if that is below this one
abbrev pub numbered_in : ℕ → Decision → Option Numbered
numbered_in most (Commit tx rank) = if nat_lt rank most then Some (record { tx = tx; number = rank }) else None
numbered_in most _ = None

-- the numbers of the decisions that refuse, counted from this one on
abbrev pub refusals_from : ℕ → List Decision → List ℕ
refusals_from number [] = []
refusals_from number (d ∷ decisions) =
    if is_refusal d then number ∷ refusals_from (number + 1) decisions else refusals_from (number + 1) decisions

-- one more, where there are not yet so many
abbrev pub with_next : {A : Type 0} → ℕ → List A → A → List A
with_next most xs x = if nat_lt (length xs) most then xs ++ x ∷ [] else xs

-- the nodes of the decision of this number
abbrev pub refused_at : Bool → List Decision → ℕ → List Node
refused_at is_dot decisions number = option_map_or (refused_nodes is_dot) (slice_get decisions number) []

-- the fate that a committed transaction is drawn with, where this one is asked for
abbrev pub fate_in_row : Option ℕ → ℕ → Fate
fate_in_row (Some asked) tx = if asked == tx then Asked else Committed
fate_in_row None tx = Committed

abbrev pub row_node : Option ℕ → Numbered → Node
row_node asked one = node (fate_in_row asked one.tx) one.tx

-- the nodes of a scene: committed ones, refused ones by the numbers of their decisions, and withdrawn ones
abbrev pub scene_nodes : Bool → List Decision → Scene → List Node
scene_nodes is_dot decisions scene = map (row_node None) scene.committed.items
    ++ (flat_map (refused_at is_dot decisions) scene.refusals.items ++ map (node Withdrawn) scene.withdrawn.items)

-- the nodes of a cycle in SVG
abbrev pub shown_cycle : Cycle → List Node
shown_cycle c = cycle_nodes false c.tx c.walk.now

-- the same, by their numbers, those of one number in the order that they had
pub record IsRanked (old new : List Numbered) : Type 0 where
  pub all : IsPermutation old new
  pub rising : IsNonDecreasingBy (λ c. c.number) new
  pub stable : IsStableByKey (λ (c : Numbered). c.number) nat_cmp old new
