-- What one more line of a text is answered with.
use Rattle.std.specs.Prelude.{◌≡◌, ◌≤◌, ℕ, Bool, List, [], ◌∷◌, ◌++◌, length, take, Option, Some, None, Result, Ok, Err}
use Rattle.sgt_notation.specs.Spelling.{IsLine, line_text}
use Rattle.sgt_notation.specs.declared.SectionLine.{SectionLine}
use Rattle.sgt_audit.specs.declared.faults.Fault.{Fault}
use Rattle.sgt_audit.specs.declared.kept.Kept.{Kept}
use Rattle.sgt_audit.specs.declared.kept.Passed.{Passed}
use Rattle.sgt_audit.specs.declared.kept.Passed.TheVariants.{Line, Faulty, Unread}
use Rattle.sgt_audit.specs.declared.machine.Progress.{Progress}
use Rattle.sgt_audit.specs.declared.machine.Progress.TheVariants.{Reading}
use Rattle.sgt_audit.specs.Faults.{Stage, headed, lines_so_far, whole, Rule, Breaks}
use Rattle.sgt_audit.specs.Held.{IsAt}
use Rattle.sgt_audit.specs.Progress.{Stands}

-- after a line with its LF: the next stage, or the least fault of this one
abbrev pub Follows : Stage → List ℕ → Progress → Option Fault → Type 0
Follows s l new None = (t : Stage) × Stands new t × (lines_so_far t ≡ lines_so_far s ++ l ∷ [])
Follows s l new (Some f) = Breaks (Rule s (whole l)) f

-- after the second line: a certificate and no line of a section, or its least fault
abbrev pub AnswersCertificate : Bool → List ℕ → Result Kept Fault → Type 0
AnswersCertificate second l (Ok k) = Follows (headed second) l (Reading k) None
AnswersCertificate second l (Err f) = Breaks (Rule (headed second) (whole l)) f

-- so many bytes in front are this line of a section with its LF
pub record IsFrontLine (bytes : List ℕ) (line : SectionLine) (n : ℕ) : Type 0 where
  pub is_line : IsLine line
  pub within : n ≤ length bytes
  pub reads : take n bytes ≡ line_text line ++ 10 ∷ []

-- after the line at the front of the bytes, if it was read: what was kept stands behind it, or the line
-- has the least fault
abbrev pub Passes : List ℕ → (old new : Kept) → Passed → Type 0
Passes bytes old new (Line n) = (line : SectionLine) × IsFrontLine bytes line n
    × ((s : Stage) → IsAt old s → Follows s (line_text line) (Reading new) None)
Passes bytes old new (Faulty f) = (line : SectionLine) × (n : ℕ) × IsFrontLine bytes line n
    × ((s : Stage) → IsAt old s → Follows s (line_text line) (Reading new) (Some f))
Passes bytes old new Unread = new ≡ old

-- the same of a machine: the line it took is the next of the text
abbrev pub PassesFront : List ℕ → (old new : Progress) → Passed → Type 0
PassesFront bytes old new (Line n) = (line : SectionLine) × IsFrontLine bytes line n
    × ((s : Stage) → Stands old s → Follows s (line_text line) new None)
PassesFront bytes old new (Faulty f) = (line : SectionLine) × (n : ℕ) × IsFrontLine bytes line n
    × ((s : Stage) → Stands old s → Follows s (line_text line) new (Some f))
PassesFront bytes old new Unread = new ≡ old
