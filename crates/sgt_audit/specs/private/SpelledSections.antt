-- Bytes that spell sections.
use Rattle.std.specs.Prelude.{◌≡◌, ℕ, Bool, true, false, List, map, All, Option, Some, None}
use Rattle.sgt_notation.specs.Spelling.{line_text, text_of_lines}
use Rattle.sgt_notation.specs.declared.SectionLine.{SectionLine}
use Rattle.sgt_bundle.specs.Text.{AreSections}
use Rattle.sgt_audit.specs.Faults.{IsLineIn}
use Rattle.sgt_audit.specs.Reading.{Begun, lines_read}

-- the bytes spell these lines, which are the sections of so many sites in the second format or the
-- first
pub record SpellsSections (second : Bool) (sites : ℕ) (bytes : List ℕ) (lines : List SectionLine) : Type 0 where
  pub each : All (IsLineIn second) lines
  pub all : AreSections sites lines
  pub text : bytes ≡ text_of_lines (map line_text lines)

-- the bytes spell these lines, or no sections at all
abbrev pub AreSpelled : Bool → Bool → ℕ → List ℕ → List SectionLine → Type 0
AreSpelled true second sites bytes lines = SpellsSections second sites bytes lines
AreSpelled false second sites bytes lines = (others : List SectionLine)
    → SpellsSections second sites bytes others → ⊥

-- these sections are what the bytes spell, or they spell none
abbrev pub AnswersSections : Bool → ℕ → List ℕ → Option Begun → Type 0
AnswersSections second sites bytes None = (lines : List SectionLine)
    → SpellsSections second sites bytes lines → ⊥
AnswersSections second sites bytes (Some b) = (b.sites ≡ sites)
    × SpellsSections second sites bytes (lines_read b)
