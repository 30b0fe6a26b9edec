-- What is told of a first fault by its line and the lines before it.
use Rattle.std.specs.Prelude.{◌≡◌, ◌≢◌, ℕ, ◌-◌, List, [], ◌++◌, codes, length, Some, slice_get, unwrap_or}
use Rattle.sgt_names.specs.Name.{Name}
use Rattle.sgt_names.specs.Entry.{item_of}
use Rattle.sgt_notation.specs.Spelling.{line_text}
use Rattle.sgt_notation.specs.declared.SectionLine.{SectionLine}
use Rattle.sgt_notation.specs.declared.SectionLine.TheVariants as Line
use Rattle.sgt_audit.specs.declared.faults.Fault.{Fault}
use Rattle.sgt_audit.specs.Faults.{FirstFault, bytes_of}
use Rattle.sgt_explain_lines.specs.Beside.{ShowsNearest, ShowsTwice, ShowsBlock}
use Rattle.sgt_audit.specs.declared.faults.Fault.TheVariants as fault
use Rattle.sgt_explain_lines.specs.Places.{TellsSection}
use Rattle.sgt_explain_lines.specs.Slips.{TellsSlip}
use Rattle.sgt_explain_lines.specs.Told.{Adds, ShowsLine}
use Rattle.sgt_explain_lines.specs.Numbered.{IsSectionOf, open_site, numbered_items, numbered_entries}
use Rattle.sgt_explain_lines.specs.declared.section.Logged.{Logged}
use Rattle.sgt_explain_lines.specs.declared.section.Section.{Section}

-- what is told begins with these words, and among what follows is the line that has the fault
abbrev pub ShowsFaulty : (words bytes : List ℕ) → ℕ → Fault → (old new : List ℕ) → Type 0
ShowsFaulty words bytes n f old new = (first : FirstFault bytes n f)
    → ShowsLine words n (bytes_of first.next) old new

-- of a line that spells nothing, why
abbrev pub ShowsUnspelled : (bytes : List ℕ) → ℕ → (old new : List ℕ) → Type 0
ShowsUnspelled bytes n old new = (first : FirstFault bytes n fault.Notation)
    → TellsSlip n (bytes_of first.next) old new

-- the name of the fault, and the line where a text ends too early, if that has any bytes
pub record ShowsEnd (line : List ℕ) (n : ℕ) (old new : List ℕ) : Type 0 where
  pub begins : Adds (old ++ codes "Truncated: ") new
  pub shown : line ≢ [] → ShowsLine (codes "Truncated: ") n line old new

-- of a line that its section doesn't allow: the line before it, the line, and what may stand there
-- by what the lines before it say
abbrev pub ShowsUnallowed : List ℕ → List SectionLine → (line : List ℕ) → ℕ → (old new : List ℕ) → Type 0
ShowsUnallowed bytes before line n old new = (s : Section) × IsSectionOf before s
    × TellsSection bytes n s line old new

-- the entry that a line of this number spells
pub record IsEntryOf (line : List ℕ) (n : ℕ) (l : Logged) : Type 0 where
  pub spelled : line ≡ line_text (Line.Logged l.entry)
  pub counted : l.line ≡ n

-- the entry of the line is shown, and the items of its section that are nearest by name
pub record ShowsUnlisted (before : List SectionLine) (line : List ℕ) (n : ℕ) (old new : List ℕ) : Type 0 where
  pub logged : Logged
  pub item : Name
  pub entry : IsEntryOf line n logged
  pub on : item_of logged.entry ≡ Some item
  pub told : ShowsNearest (numbered_items before) item (unwrap_or (open_site before) 0) logged old new

-- the entry of the line is shown, and the one of its section that it repeats
pub record ShowsRepeating (before : List SectionLine) (line : List ℕ) (n : ℕ) (old new : List ℕ) : Type 0 where
  pub logged : Logged
  pub item : Name
  pub entry : IsEntryOf line n logged
  pub on : item_of logged.entry ≡ Some item
  pub told : ShowsTwice (numbered_entries before) item (unwrap_or (open_site before) 0) logged old new

-- the line is shown, and before it the last entry of its section, whose block it cuts
pub record ShowsCut (before : List SectionLine) (line : List ℕ) (n : ℕ) (old new : List ℕ) : Type 0 where
  pub last : Logged
  pub at : slice_get (numbered_entries before) (length (numbered_entries before) - 1) ≡ Some last
  pub told : ShowsBlock last n line old new
