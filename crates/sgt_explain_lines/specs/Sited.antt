-- The entries of a text's sections, each with its site and the number of its line.
use Rattle.std.specs.Prelude.{◌≡◌, ◌⊎◌, ℕ, ◌+◌, ◌≤◌, List, [], ◌++◌, length, map, take, slice_get, All, Option, Some, None, unwrap_or}
use Rattle.std.specs.List.{filter_map, enumerate_from}
use Rattle.sgt_notation.specs.Spelling.{line_text, text_of_lines, HasNoLf, IsLine}
use Rattle.sgt_notation.specs.declared.SectionLine.{SectionLine}
use Rattle.sgt_notation.specs.declared.SectionLine.TheVariants as Line
use Rattle.sgt_explain_lines.specs.Numbered.{open_site}
use Rattle.sgt_explain_lines.specs.declared.section.Logged.{Logged}

-- the text has, behind two lines, these lines of sections, which are all that it has before the line of this number
pub record HasLines (bytes : List ℕ) (number : ℕ) (lines : List SectionLine) : Type 0 where
  pub head : List (List ℕ)
  pub rest : List ℕ
  pub two : length head ≡ 2
  pub whole : All HasNoLf head
  pub spelled : All IsLine lines
  pub text : bytes ≡ text_of_lines head ++ (text_of_lines (map line_text lines) ++ rest)
  pub ends : (number ≡ length lines + 3) ⊎ ((rest ≡ []) × (length lines + 3 ≤ number))

-- the same, where none stands before that line
abbrev pub HasBefore : List ℕ → ℕ → List SectionLine → Type 0
HasBefore bytes number lines = ((lines ≡ []) × (number ≤ 3)) ⊎ HasLines bytes number lines

-- the site that is open at a place of these lines
abbrev pub site_at : List SectionLine → ℕ → ℕ
site_at lines place = unwrap_or (open_site (take place lines)) 0

-- the entry stands in the line of its number, in the section of the site
pub record StandsAt (lines : List SectionLine) (site : ℕ) (l : Logged) : Type 0 where
  pub place : ℕ
  pub there : slice_get lines place ≡ Some (Line.Logged l.entry)
  pub counted : l.line ≡ place + 3
  pub inside : site_at lines place ≡ site
