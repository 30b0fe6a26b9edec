-- Which history a text spells, and its first line that can't be read.
use Rattle.std.specs.Prelude.{◌≡◌, ◌≢◌, ◌⊎◌, ℕ, ◌+◌, ◌≤◌, List, [], ◌∷◌, ◌++◌, length, Option, Contains}
use Rattle.json.specs.Json.{Json}
use Rattle.sgt_notation.specs.Lines.{IsLongerThan}
use Rattle.sgt_notation.specs.Spelling.{HasNoLf, text_of_lines}
use Rattle.sgt_history.specs.Serial.{StandOnce}
use Rattle.sgt_history.specs.Transaction.{Transaction}
use Rattle.sgt_history_time.specs.declared.times.Times.{Times}
use Rattle.sgt_history_text.specs.Line.{IsLine}
use Rattle.sgt_history_text.specs.Moment.{IsLineWith, Tell}
use Rattle.sgt_history_text.specs.declared.fault.LineFault.{LineFault}
use Rattle.sgt_history_text.specs.declared.fault.LineFault.TheVariants.{NotALine, TooLong, IdAgain}
use Rattle.sgt_history_text.specs.declared.wanted.Wanted.{Wanted}

-- the bytes that a line has at most, its LF left out
abbrev pub longest_line : ℕ
longest_line = 16777216

-- each line has no LF, isn't too long, and spells its transaction
abbrev pub SpellEach : List (List ℕ) → List Json → List (Transaction Json Json) → Type 0
SpellEach [] [] [] = Unit {0}
SpellEach [] [] (t ∷ ts) = ⊥
SpellEach [] (id ∷ ids) ts = ⊥
SpellEach (line ∷ lines) [] ts = ⊥
SpellEach (line ∷ lines) (id ∷ ids) [] = ⊥
SpellEach (line ∷ lines) (id ∷ ids) (t ∷ ts) =
    HasNoLf line × (length line ≤ longest_line) × IsLine line id t × SpellEach lines ids ts

-- the last line lacks its LF; it has some byte then
pub record LacksLastLf (lines : List (List ℕ)) (bytes : List ℕ) : Type 0 where
  pub front : List (List ℕ)
  pub last : List ℕ
  pub lines_are : lines ≡ front ++ last ∷ []
  pub some_byte : last ≢ []
  pub bytes_are : bytes ≡ text_of_lines front ++ last

-- the bytes are these lines, each with its LF, which the last may lack
abbrev pub AreLines : List (List ℕ) → List ℕ → Type 0
AreLines lines bytes = (bytes ≡ text_of_lines lines) ⊎ LacksLastLf lines bytes

-- the bytes spell these transactions, with these ids, of which no two are equal
pub record Spells (bytes : List ℕ) (ids : List Json) (h : List (Transaction Json Json)) : Type 0 where
  pub lines : List (List ℕ)
  pub are_lines : AreLines lines bytes
  pub spell : SpellEach lines ids h
  pub apart : StandOnce ids

-- and its lines tell what is wanted: when these ran, and their sessions
pub record SpellsWith (w : Wanted) (bytes : List ℕ) (ids : List Json) (h : List (Transaction Json Json))
    (times : List (Option Times))
    (sessions : List (Option Json)) : Type 0 where
  pub spells : Spells bytes ids h
  pub tell : Tell w spells.lines h times sessions

-- ---- the first line that can't be read

-- a line stands in front of the rest, with its LF or as the last
pub record IsInFront (line rest : List ℕ) : Type 0 where
  pub none : HasNoLf line
  pub short : length line ≤ longest_line
  pub there : ((more : List ℕ) × (rest ≡ line ++ 10 ∷ more)) ⊎ ((rest ≡ line) × (line ≢ []))

-- why the line in front can't be read, behind lines with these ids
abbrev pub Blocks : Wanted → List Json → List ℕ → LineFault → Type 0
Blocks w ids rest NotALine =
    (line : List ℕ) × IsInFront line rest × ((id : Json) (t : Transaction Json Json) → IsLineWith w line id t → ⊥)
Blocks w ids rest TooLong = IsLongerThan longest_line rest
Blocks w ids rest IdAgain = (line : List ℕ) × (id : Json) × (t : Transaction Json Json)
    × IsInFront line rest × IsLineWith w line id t × Contains ids id

-- the first line that can't be read has this number, from 1, and this fault
pub record IsFirstUnreadable (w : Wanted) (bytes : List ℕ) (number : ℕ) (fault : LineFault) : Type 0 where
  pub before : List (List ℕ)
  pub ids : List Json
  pub h : List (Transaction Json Json)
  pub times : List (Option Times)
  pub sessions : List (Option Json)
  pub rest : List ℕ
  pub text : bytes ≡ text_of_lines before ++ rest
  pub spell : SpellEach before ids h
  pub tell : Tell w before h times sessions
  pub apart : StandOnce ids
  pub number_is : number ≡ length before + 1
  pub blocks : Blocks w ids rest fault
