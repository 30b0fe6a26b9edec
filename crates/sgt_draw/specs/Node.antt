-- How a transaction stands in a picture.
use Rattle.std.specs.Prelude.{◌≡◌, ◌++◌, ℕ, Bool, true, false, List, [], ◌∷◌, codes, decimal}
use Rattle.sgt_markup.specs.Escaped.{escaped}
use Rattle.sgt_draw.specs.declared.node.Fate.{Fate}
use Rattle.sgt_draw.specs.declared.node.Fate.TheVariants.{Committed, Asked, Refused, Withdrawn, Neither}
use Rattle.sgt_draw.specs.declared.node.Node.{Node}

abbrev pub node : Fate → ℕ → Node
node fate tx = record { fate = fate; tx = tx }

-- Graphviz text has a line of its own for a node; in SVG a node has a title, and one that was neither committed nor
-- refused a sentence
abbrev pub before : Bool → Fate → List ℕ
before true fate = codes "  "
before false Neither = codes "transaction "
before false _ = codes "<g><title>transaction "

abbrev pub behind : Bool → Fate → List ℕ
behind true Committed = codes ";\n"
behind true Asked = codes " [style=filled, fillcolor=\"#fff2cc\"];\n"
behind true Refused = codes " [style=filled, fillcolor=\"#ffd9d0\", color=\"#a00000\"];\n"
behind true Withdrawn = codes " [style=filled, fillcolor=\"#dddddd\", color=\"#888888\"];\n"
behind true Neither = codes ";\n"
behind false Committed = codes ", committed</title>"
behind false Asked = codes ", committed</title>"
behind false Refused = codes ", refused</title>"
behind false Withdrawn = codes ", withdrawn</title>"
behind false Neither = codes " was neither refused nor committed: it has no cycle and no conflicts"

-- its number, and what became of it
abbrev pub node_text : Bool → Node → List ℕ
node_text is_dot n = before is_dot n.fate ++ (escaped (decimal n.tx) ++ behind is_dot n.fate)

-- these stand in the text, one behind the other
abbrev pub Shows : Bool → List Node → List ℕ → Type 0
Shows is_dot [] text = Unit {0}
Shows is_dot (n ∷ nodes) text = (front : List ℕ) × (rest : List ℕ) × (text ≡ front ++ (node_text is_dot n ++ rest))
    × Shows is_dot nodes rest
