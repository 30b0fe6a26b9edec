-- Names as XML can hold them.
use Rattle.std.specs.Prelude.{◌==◌, ◌&&◌, ◌≤◌, ltb, leb, ℕ, List, [], ◌∷◌, ◌++◌, All, if◌then◌else◌}
use Rattle.sgt_markup.specs.Written.{written}

-- what stands for a byte of UTF-8 behind these two: U+FFFD for a control byte, and, by its last byte, for U+FFFE and
-- U+FFFF, which XML does not have
abbrev pub mended_byte : (before last b : ℕ) → List ℕ
mended_byte before last b =
    if ltb b 32 then 239 ∷ 191 ∷ 189 ∷ []
    else if before == 239 && last == 191 && leb 190 b then 189 ∷ []
    else b ∷ []

abbrev pub mended_behind : (before last : ℕ) → List ℕ → List ℕ
mended_behind before last [] = []
mended_behind before last (b ∷ text) = mended_byte before last b ++ mended_behind last b text

-- a text of characters that XML has
abbrev pub mended : List ℕ → List ℕ
mended text = mended_behind 0 0 text

-- a name as it is written
abbrev pub escaped : List ℕ → List ℕ
escaped name = written (mended name)

-- no control byte stands in the text
abbrev pub HasNoControl : List ℕ → Type 0
HasNoControl text = All (λ b. 32 ≤ b) text
