-- Bytes that spell no bundle: the line, or the end, that breaks a rule of spelling.
use Rattle.std.specs.Prelude.{◌≡◌, ◌++◌, ℕ, Bool, List, All}
use Rattle.sgt_notation.specs.Spelling.{text_of_lines}
use Rattle.sgt_notation.specs.declared.SectionLine.{SectionLine}
use Rattle.sgt_bundle.specs.Text.{IsCertificate, Begins, AreSections}
use Rattle.sgt_bundle.specs.declared.certificate.Certificate.{Certificate}
use Rattle.sgt_audit.specs.declared.faults.Fault.{Fault}
use Rattle.sgt_audit.specs.declared.faults.Fault.TheVariants as fault
use Rattle.sgt_audit.specs.Faults.{IsLineIn, Stage, start, headed, within, complete, lines_so_far, Piece, ComesNext, Rule}

-- the rules that the text of every bundle keeps, valid or not: F1, F2, F3, F7, F18 and F19
abbrev pub IsOfSpelling : Fault → Type 0
IsOfSpelling fault.Format = Unit {0}
IsOfSpelling fault.Notation = Unit {0}
IsOfSpelling fault.Certificate = Unit {0}
IsOfSpelling fault.Section = Unit {0}
IsOfSpelling fault.Truncated = Unit {0}
IsOfSpelling fault.Trailing = Unit {0}
IsOfSpelling _ = ⊥

-- a certificate, and lines that begin the sections of its sites
pub record AreLinesOf (second : Bool) (c : Certificate) (before : List SectionLine) : Type 0 where
  pub certificate : IsCertificate c
  pub each : All (IsLineIn second) before
  pub begins : Begins c.sites before

-- the lines read so far keep the rules of spelling
abbrev pub IsSpelled : Stage → Type 0
IsSpelled start = Unit {0}
IsSpelled (headed second) = Unit {0}
IsSpelled (within second c before) = AreLinesOf second c before × (AreSections c.sites before → ⊥)
IsSpelled (complete second c before) = AreLinesOf second c before × AreSections c.sites before

-- behind lines that keep the rules of spelling comes a line, or the end, that breaks this one
pub record Misspells (bytes : List ℕ) (f : Fault) : Type 0 where
  pub of_spelling : IsOfSpelling f
  pub stage : Stage
  pub rest : List ℕ
  pub next : Piece
  pub text : bytes ≡ text_of_lines (lines_so_far stage) ++ rest
  pub spelled : IsSpelled stage
  pub comes : ComesNext rest next
  pub broken : Rule stage next f → ⊥
