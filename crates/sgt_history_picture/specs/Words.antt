-- The words of a line.
use Rattle.std.specs.Prelude.{◌≡◌, ◌≢◌, ◌==◌, ⊤, ℕ, List, [], ◌∷◌, if◌then◌else◌}
use Rattle.sgt_history_picture.specs.declared.word.Place.{Place}
use Rattle.sgt_history_picture.specs.declared.word.Place.TheVariants.{Outside, Inside, Escaped}

-- where the byte behind this one stands: a string goes from a quote to the next one that is not behind a backslash
abbrev pub next : Place → ℕ → Place
next Outside b = if b == 34 then Inside else Outside
next Inside b = if b == 34 then Outside else if b == 92 then Escaped else Inside
next Escaped b = Inside

-- where the byte behind this text stands
abbrev pub after : Place → List ℕ → Place
after place [] = place
after place (b ∷ text) = after (next place b) text

-- each space of the text stands in a string
abbrev pub HasNoGap : Place → List ℕ → Type 0
HasNoGap place [] = ⊤
HasNoGap place (b ∷ text) = (place ≡ Outside → b ≢ 32) × HasNoGap (next place b) text

-- a word: no space stands in it but in a string, and each string ends in it
abbrev pub IsWord : List ℕ → Type 0
IsWord text = HasNoGap Outside text × (after Outside text ≡ Outside)
