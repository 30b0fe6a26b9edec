-- A picture that is begun, and what was noted of it.
use Rattle.std.specs.Prelude.{◌≡◌, ◌++◌, ℕ, Bool, List, [], ◌∷◌}
use Rattle.sgt_draw.specs.Node.{Shows}
use Rattle.sgt_draw.specs.Picture.{head_of}
use Rattle.sgt_draw.specs.declared.node.Node.{Node}

-- whether it is Graphviz text, and the transactions that were drawn, in order
pub record Shown : Type 0 where
  pub is_dot : Bool
  pub nodes : List Node

-- the text so far, and what is shown there
pub record Sheet : Type 0 where
  pub text : List ℕ
  pub shown : Shown

-- a picture of which the head alone is there
abbrev pub blank : Bool → Sheet
blank is_dot = record { text = head_of is_dot; shown = record { is_dot = is_dot; nodes = [] } }

-- this node behind those that are there
abbrev pub with_node : Shown → Node → Shown
with_node shown n = record { is_dot = shown.is_dot; nodes = shown.nodes ++ n ∷ [] }

-- these nodes were added
abbrev pub Adds : List Node → (old new : Shown) → Type 0
Adds nodes old new = (new.is_dot ≡ old.is_dot) × (new.nodes ≡ old.nodes ++ nodes)

-- the text begins with its head, and shows what was noted
pub record IsKept (is_dot : Bool) (nodes : List Node) (text : List ℕ) : Type 0 where
  pub rest : List ℕ
  pub headed : text ≡ head_of is_dot ++ rest
  pub shows : Shows is_dot nodes text
