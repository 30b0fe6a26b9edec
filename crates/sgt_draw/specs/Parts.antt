-- The text of a picture, by its parts.
use Rattle.std.specs.Prelude.{List, ◌++◌, ℕ, codes, decimal, flat_map}
use Rattle.sgt_names.specs.Name.{Name}
use Rattle.sgt_names.specs.declared.entry.Kind.{Kind}
use Rattle.sgt_names.specs.declared.entry.Kind.TheVariants.{Wr, Rw, Ww}
use Rattle.sgt_markup.specs.Escaped.{escaped}
use Rattle.sgt_draw.specs.declared.canvas.Part.{Part}
use Rattle.sgt_draw.specs.declared.canvas.Part.TheVariants as part

-- markup is written as it is; the digits of a number and the bytes of a name are escaped
abbrev pub part_text : Part → List ℕ
part_text (part.Markup text) = text.now
part_text (part.Number n) = escaped (decimal n)
part_text (part.Name name) = escaped name.now

abbrev pub parts_text : List Part → List ℕ
parts_text parts = flat_map part_text parts

-- a conflict as it is named
abbrev pub kind_text : Kind → List ℕ
kind_text Wr = codes "wr"
kind_text Rw = codes "rw"
kind_text Ww = codes "ww"

abbrev pub label_text : Kind → ℕ → Name → List ℕ
label_text kind site x = kind_text kind ++ (codes " " ++ (escaped (decimal site) ++ (codes "." ++ escaped x)))
