-- What the text of a picture is made of.
use Rattle.std.specs.Prelude.{◌≡◌, ◌++◌, ℕ, Bool, true, false, List, codes}
use Rattle.sgt_draw.specs.Node.{Shows}
use Rattle.sgt_draw.specs.Parts.{parts_text}
use Rattle.sgt_draw.specs.declared.canvas.Part.{Part}
use Rattle.sgt_draw.specs.declared.node.Node.{Node}

-- what Graphviz text begins with, or SVG
abbrev pub head_of : Bool → List ℕ
head_of true = codes "digraph sgt {\n"
head_of false = codes "<svg "

-- what it ends with
abbrev pub foot_of : Bool → List ℕ
foot_of true = codes "}\n"
foot_of false = codes "</svg>\n"

-- a picture that is begun: behind its head stands what some parts are written as
abbrev pub IsBegun : Bool → List ℕ → Type 0
IsBegun is_dot text = (parts : List Part) × (text ≡ head_of is_dot ++ parts_text parts)

-- a whole picture: Graphviz text or SVG, of a head, of what some parts are written as, and of a foot
abbrev pub IsPicture : List ℕ → Type 0
IsPicture text = (is_dot : Bool) × (parts : List Part)
    × (text ≡ head_of is_dot ++ (parts_text parts ++ foot_of is_dot))

-- a whole picture, as Graphviz text or as SVG, in which these transactions stand
pub record IsPictureOf (is_dot : Bool) (nodes : List Node) (text : List ℕ) : Type 0 where
  pub parts : List Part
  pub whole : text ≡ head_of is_dot ++ (parts_text parts ++ foot_of is_dot)
  pub shows : Shows is_dot nodes text
