-- A cycle as Graphviz text.
use Rattle.std.specs.Prelude.{true, ℕ, List, ◌++◌, codes, flat_map}
use Rattle.sgt_markup.specs.Escaped.{escaped}
use Rattle.sgt_draw.specs.Picture.{foot_of, head_of}
use Rattle.sgt_history_picture.specs.Told.{Step, kind_text}
use Rattle.sgt_history_picture.specs.declared.told.Kind.{Kind}
use Rattle.sgt_history_picture.specs.declared.told.Kind.TheVariants.{WriteWrite, WriteRead, ReadWrite, Session, Moment, End}

-- how an edge ends, by the kind of its step
abbrev pub look_text : Kind → List ℕ
look_text WriteRead = codes "\", color=\"#0072b2\", style=solid, penwidth=3];\n"
look_text ReadWrite = codes "\", color=\"#d55e00\", style=dashed, penwidth=3];\n"
look_text WriteWrite = codes "\", color=\"#007a5a\", style=dotted, penwidth=3];\n"
look_text Session = codes "\", color=\"#7b3294\", style=solid, penwidth=3];\n"
look_text Moment = codes "\", color=\"#555555\", style=dashed, penwidth=3];\n"
look_text End = codes "\", color=\"#333333\", style=solid, penwidth=3];\n"

-- the edge of a step: from its first transaction to its second, with its kind and what shows it
abbrev pub edge_text : Step → List ℕ
edge_text s = codes "  \"" ++ (escaped s.from ++ (codes "\" -> \"" ++ (escaped s.to ++ (codes "\" [label=\""
    ++ (kind_text s.kind ++ (codes " " ++ (escaped s.about ++ look_text s.kind)))))))

-- an edge for each step, in this order, and nothing else
abbrev pub graph_text : List Step → List ℕ
graph_text steps =
    head_of true ++ (codes "  rankdir=LR;\n  node [shape=box];\n" ++ (flat_map edge_text steps ++ foot_of true))
