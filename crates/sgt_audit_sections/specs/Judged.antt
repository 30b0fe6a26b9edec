-- What a section was found to be.
use Rattle.std.specs.Prelude.{◌≡◌, ◌↔◌, ◌≤◌, ◌+◌, ℕ, List, ◌++◌, length, map, replicate, Bool, IsTrue}
use Rattle.sgt_names.specs.Limits.{max_line}
use Rattle.sgt_notation.specs.Spelling.{HasNoLf, line_text, text_of_lines}
use Rattle.sgt_notation.specs.declared.SectionLine.{SectionLine}
use Rattle.sgt_bundle.specs.Text.{section_lines}
use Rattle.sgt_bundle.specs.declared.bundle.SiteLog.{SiteLog}
use Rattle.sgt_bundle.specs.declared.certificate.Certificate.{Certificate}
use Rattle.sgt_audit.specs.Alone.{StandsAlone}
use Rattle.sgt_audit.specs.Reading.{Begun, lines_read}
use Rattle.sgt_audit.specs.declared.alone.Alone.{Alone}
use Rattle.sgt_audit.specs.declared.faults.Fault.TheVariants.{Truncated}
use Rattle.sgt_audit_sections.specs.Sections.{AreKeptAlone, IsFaultlessSection, OwnFault, StepsAreFound, alone, empty_log}
use Rattle.sgt_audit_sections.specs.declared.judging.Judged.{Judged}
use Rattle.sgt_audit_sections.specs.declared.judging.Judged.TheVariants.{Whole, Faulty, Open, Unfit}

-- the bytes are the whole section of site k, with no fault of its own
pub record IsWholeSection (second : Bool) (c : Certificate) (k : ℕ) (bytes : List ℕ) (lines : ℕ) (met : Bool) : Type 0
  where
    pub log : SiteLog
    pub faultless : IsFaultlessSection second c k log
    pub text : bytes ≡ text_of_lines (map line_text (section_lines k log))
    pub count : lines ≡ length (section_lines k log)
    pub steps : IsTrue met ↔ StepsAreFound c.decisions k log

-- they are that, or they have this fault, whatever follows them, or F18 where nothing does
abbrev pub IsJudgedSection : Bool → Certificate → ℕ → List ℕ → Judged → Type 0
IsJudgedSection second c k bytes (Whole lines met) = IsWholeSection second c k bytes lines met
IsJudgedSection second c k bytes (Faulty n f) = (more : List ℕ)
    → OwnFault second c k (bytes ++ more) n f
IsJudgedSection second c k bytes (Open n rest) = OwnFault second c k bytes n Truncated
IsJudgedSection second c k bytes Unfit = Unit {0}

abbrev pub IsWhole : Judged → Type 0
IsWhole (Whole lines met) = Unit {0}
IsWhole _ = ⊥

-- Of these bytes of the section of site k all but the rest, which begin with its line of this
-- number, are lines with no fault of their own, and this is what is kept of them.
pub record IsUnderway (second : Bool) (c : Certificate) (k : ℕ) (bytes rest : List ℕ) (line : ℕ) (a : Alone) : Type 0
  where
    pub b : Begun
    pub own : List SectionLine
    pub whole : b.whole ≡ replicate k empty_log
    pub stands : StandsAlone c b a
    pub lines : lines_read b ≡ alone k own
    pub kept : AreKeptAlone second c k own
    pub text : bytes ≡ text_of_lines (map line_text own) ++ rest
    pub number : line ≡ length own + 1
    pub format : a.second ≡ second

-- where the section goes on, its next line begins with the last bytes
pub record IsUnderwayAt (second : Bool) (c : Certificate) (k : ℕ) (bytes piece : List ℕ) (a : Alone)
    (line many : ℕ) : Type 0 where
  pub rest : List ℕ
  pub front : List ℕ
  pub last : piece ≡ front ++ rest
  pub many_bytes : many ≡ length rest
  pub short : length rest ≤ max_line
  pub one : HasNoLf rest
  pub underway : IsUnderway second c k bytes rest line a

abbrev pub GoesOn : Bool → Certificate → ℕ → (bytes piece : List ℕ) → Alone → Judged → Type 0
GoesOn second c k bytes piece a (Open line many) = IsUnderwayAt second c k bytes piece a line many
GoesOn second c k bytes piece a _ = Unit {0}

-- what is found is at this line or behind it
abbrev pub IsFrom : ℕ → Judged → Type 0
IsFrom line (Faulty n f) = line ≤ n
IsFrom line (Open n rest) = line ≤ n
IsFrom line _ = Unit {0}
