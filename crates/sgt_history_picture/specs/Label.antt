-- How a step of a cycle is written in a picture. What isn't markup is escaped.
use Rattle.std.specs.Prelude.{ℕ, List, ◌++◌, codes, decimal}
use Rattle.sgt_markup.specs.Escaped.{escaped}
use Rattle.sgt_history_picture.specs.Short.{shown}
use Rattle.sgt_history_picture.specs.Told.{Step, kind_text}

-- its line
abbrev pub label_text : Step → List ℕ
label_text s = escaped s.from ++ (codes " " ++ (kind_text s.kind ++ (codes " " ++ (escaped s.to ++ (codes " " ++ escaped s.about)))))

-- the headline: the name of the cycle, and what it is
abbrev pub headline_text : List ℕ → List ℕ
headline_text name = codes ">" ++ (escaped name ++ codes ": each stands before the next in every order</text>\n")

-- the title of the box of its first transaction: the whole name
abbrev pub name_text : List ℕ → List ℕ
name_text name = codes "<title>" ++ (escaped name ++ codes "</title>")

-- the name in that box: all of it up to 36 bytes
abbrev pub box_text : List ℕ → List ℕ
box_text name = codes ">" ++ (shown 18 18 name ++ codes "</text></g>")

-- the title of its arrow: the whole line
abbrev pub title_text : Step → List ℕ
title_text s = codes "<title>" ++ (label_text s ++ codes "</title>")

-- the words beside its arrow: the kind, and what shows it, all of it up to 104 bytes
abbrev pub words_text : Step → List ℕ
words_text s = codes ">" ++ (kind_text s.kind ++ (codes " " ++ (shown 40 64 s.about ++ codes "</text></g>")))

-- how many steps are left out
abbrev pub more_text : ℕ → List ℕ
more_text n = codes ">and " ++ (escaped (decimal n) ++ codes " more, the last of them back to the first</text>\n")
