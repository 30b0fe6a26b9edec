-- The lines of a text by their numbers, and the section that is open before one of them.
use Rattle.std.specs.Prelude.{◌≡◌, ◌≢◌, ◌⊎◌, ℕ, ◌+◌, ◌-◌, List, [], ◌∷◌, ◌++◌, length, map, fold, slice_get, All, Option, Some, None}
use Rattle.std.specs.List.{filter_map, enumerate_from}
use Rattle.sgt_names.specs.declared.entry.Entry.{Entry}
use Rattle.sgt_notation.specs.Spelling.{line_text, text_of_lines, HasNoLf, IsLine}
use Rattle.sgt_notation.specs.declared.SectionLine.{SectionLine}
use Rattle.sgt_notation.specs.declared.SectionLine.TheVariants as Line
use Rattle.sgt_explain_lines.specs.declared.section.Logged.{Logged}
use Rattle.sgt_explain_lines.specs.declared.section.Stated.{Stated}
use Rattle.sgt_explain_lines.specs.declared.section.Section.{Section}

-- the text has this line, of this number; the last line may have no LF
pub record IsLineAt (bytes : List ℕ) (number : ℕ) (line : List ℕ) : Type 0 where
  pub before : List (List ℕ)
  pub rest : List ℕ
  pub whole : All HasNoLf before
  pub one : HasNoLf line
  pub text : (bytes ≡ text_of_lines before ++ (line ++ 10 ∷ rest))
      ⊎ ((bytes ≡ text_of_lines before ++ line) × (line ≢ []))
  pub counted : number ≡ length before + 1

-- the text has, behind two lines and these lines of sections, this one, which is the line of this number
pub record HasLine (bytes : List ℕ) (number : ℕ) (before : List SectionLine) (line : SectionLine) : Type 0 where
  pub head : List (List ℕ)
  pub rest : List ℕ
  pub two : length head ≡ 2
  pub whole : All HasNoLf head
  pub spelled : All IsLine before
  pub one : IsLine line
  pub text : bytes ≡ text_of_lines head ++ (text_of_lines (map line_text before) ++ (line_text line ++ 10 ∷ rest))
  pub counted : number ≡ length before + 3

-- ---- the section that is open behind some lines

-- the lines behind the last site line, each with its number
abbrev pub with_line : List (ℕ × SectionLine) → ℕ × SectionLine → List (ℕ × SectionLine)
with_line section (n, Line.Site k) = []
with_line section (n, line) = section ++ (n, line) ∷ []

abbrev pub open_lines : List SectionLine → List (ℕ × SectionLine)
open_lines before = fold with_line [] (enumerate_from 3 before)

-- its site, its items, its entries and its finals
abbrev pub with_site : Option ℕ → SectionLine → Option ℕ
with_site site (Line.Site k) = Some k
with_site site _ = site

abbrev pub open_site : List SectionLine → Option ℕ
open_site before = fold with_site None before

abbrev pub stated_in : ℕ × SectionLine → Option Stated
stated_in (n, Line.Initial h) = Some (record { line = n; holding = h })
stated_in _ = None

abbrev pub logged_in : ℕ × SectionLine → Option Logged
logged_in (n, Line.Logged e) = Some (record { line = n; entry = e })
logged_in _ = None

abbrev pub final_stated_in : ℕ × SectionLine → Option Stated
final_stated_in (n, Line.Final h) = Some (record { line = n; holding = h })
final_stated_in _ = None

abbrev pub numbered_items : List SectionLine → List Stated
numbered_items before = filter_map stated_in (open_lines before)

abbrev pub numbered_entries : List SectionLine → List Logged
numbered_entries before = filter_map logged_in (open_lines before)

abbrev pub numbered_finals : List SectionLine → List Stated
numbered_finals before = filter_map final_stated_in (open_lines before)

-- the last of these lines, of whichever section
abbrev pub last_line : List SectionLine → Option SectionLine
last_line before = slice_get before (length before - 1)

-- the entry that a line has, and the site that is open behind it
abbrev pub entry_in : SectionLine → Option Entry
entry_in (Line.Logged e) = Some e
entry_in _ = None

abbrev pub site_behind : ℕ → SectionLine → ℕ
site_behind site (Line.Site k) = k
site_behind site _ = site

-- what is kept of the section that is open behind these lines is right
pub record IsSectionOf (before : List SectionLine) (section : Section) : Type 0 where
  pub site : section.site ≡ open_site before
  pub items : section.items.items ≡ numbered_items before
  pub entries : section.entries.items ≡ numbered_entries before
  pub finals : section.finals.items ≡ numbered_finals before
  pub last : section.last ≡ last_line before

-- ---- one more line, for private clauses

abbrev pub items_with : List Stated → ℕ → SectionLine → List Stated
items_with items n (Line.Site k) = []
items_with items n (Line.Initial h) = items ++ record { line = n; holding = h } ∷ []
items_with items n _ = items

abbrev pub entries_with : List Logged → ℕ → SectionLine → List Logged
entries_with entries n (Line.Site k) = []
entries_with entries n (Line.Logged e) = entries ++ record { line = n; entry = e } ∷ []
entries_with entries n _ = entries

abbrev pub finals_with : List Stated → ℕ → SectionLine → List Stated
finals_with finals n (Line.Site k) = []
finals_with finals n (Line.Final h) = finals ++ record { line = n; holding = h } ∷ []
finals_with finals n _ = finals

pub record HasOneMore (old new : Section) (n : ℕ) (line : SectionLine) : Type 0 where
  pub site : new.site ≡ with_site old.site line
  pub items : new.items.items ≡ items_with old.items.items n line
  pub entries : new.entries.items ≡ entries_with old.entries.items n line
  pub finals : new.finals.items ≡ finals_with old.finals.items n line
  pub last : new.last ≡ Some line
