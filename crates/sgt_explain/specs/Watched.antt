-- How far the lines of a text were judged. (Private clauses alone use these words.)
use Rattle.std.specs.Prelude.{◌≡◌, ◌⊎◌, ℕ, ◌+◌, ◌-◌, ◌<◌, ◌≤◌, List, ◌∷◌, ◌++◌, length, take, drop, Option, Some, None}
use Rattle.std.specs.Io.KnownBytes.{Consumes}
use Rattle.sgt_names.specs.Limits.{max_line}
use Rattle.sgt_notation.specs.Spelling.{HasNoLf, text_of_lines}
use Rattle.sgt_audit.specs.declared.faults.Fault.{Fault}
use Rattle.sgt_audit.specs.Faults.{Stage, Piece, whole, lines_so_far, IsFaultless, Rule, Breaks, bytes_of}
use Rattle.sgt_audit.specs.Progress.{Stands}
use Rattle.sgt_audit.specs.private.Ending.{limit_of}
use Rattle.sgt_explain.specs.declared.front.Watch.{Watch}

-- the lines up to there have no fault, and the machine stands behind them; what follows is open, and was looked at up
-- to there: no LF stands in it, and it isn't too long
pub record IsBehind (w : Watch) (bytes : List ℕ) : Type 0 where
  pub stage : Stage
  pub opened : List ℕ
  pub stands : Stands w.machine.progress stage
  pub text : bytes ≡ text_of_lines (lines_so_far stage) ++ opened
  pub place : w.judged ≡ length (text_of_lines (lines_so_far stage))
  pub number : w.number ≡ length (lines_so_far stage) + 1
  pub begun : w.judged ≤ w.seen
  pub within : w.seen ≤ length bytes
  pub short : w.seen ≤ w.judged + limit_of stage
  pub one : HasNoLf (take (w.seen - w.judged) opened)

-- the line has the fault, with its LF behind it, or as one that is longer than any may be
abbrev pub IsFaultyLine : Stage → (line rest : List ℕ) → Fault → (ends : ℕ) → Type 0
IsFaultyLine s line rest f ends =
    ((more : List ℕ) × (rest ≡ 10 ∷ more) × Breaks (Rule s (whole line)) f × (ends ≡ length line + 1))
    ⊎ ((length line ≡ max_line + 1) × ((next : Piece) → max_line < length (bytes_of next) → Breaks (Rule s next) f)
    × (ends ≡ length line))

-- the bytes have this first fault, whatever follows them; the line that has it ends at this place
pub record MeetsFault (bytes : List ℕ) (end n : ℕ) (f : Fault) : Type 0 where
  pub stage : Stage
  pub line : List ℕ
  pub rest : List ℕ
  pub ends : ℕ
  pub faultless : IsFaultless stage
  pub text : bytes ≡ text_of_lines (lines_so_far stage) ++ (line ++ rest)
  pub one : HasNoLf line
  pub number : n ≡ length (lines_so_far stage) + 1
  pub faulty : IsFaultyLine stage line rest f ends
  pub place : end ≡ length (text_of_lines (lines_so_far stage)) + ends

-- lines were judged, or the last of them has the first fault
abbrev pub HasFedSome : List ℕ → Watch → Option Fault → Type 0
HasFedSome text w None = IsBehind w text
HasFedSome text w (Some f) = MeetsFault text w.judged w.number f

-- each line that is whole was judged, or the last of them has the first fault
abbrev pub HasFed : List ℕ → Watch → Option Fault → Type 0
HasFed text w None = IsBehind w text × HasNoLf (drop w.seen text)
HasFed text w (Some f) = MeetsFault text w.judged w.number f

-- and the line that is open isn't too long, or has it
abbrev pub HasJudged : List ℕ → Watch → Option Fault → Type 0
HasJudged text w None = IsBehind w text × (w.seen ≡ length text)
HasJudged text w (Some f) = MeetsFault text w.judged w.number f

-- the lines that were judged end behind what was looked at before
abbrev pub HasPassed : (old new : Watch) → Type 0
HasPassed old new = old.seen < new.judged

-- so it is where a line was judged; or none was, and no more was looked at
abbrev pub HasGoneOn : (old new : Watch) → Option Fault → Type 0
HasGoneOn old new None = HasPassed old new ⊎ ((new.judged ≡ old.judged) × (new.seen ≡ old.seen))
HasGoneOn old new (Some f) = HasPassed old new

-- ---- reading

-- behind a text that was there came these bytes, by which it is this one now
abbrev pub CameBehind : (old new : List ℕ) (told now : Option (List ℕ)) → Type 0
CameBehind old new told now = (came : List ℕ) × (new ≡ old ++ came) × Consumes told now came

-- no read was made; or so much of the text was looked at before the last one, which gave the rest, and so many reads
-- were made behind a text of this length
abbrev pub IsOfLastRead : {R : Type 0} → (old new : R) → (seen last size before reads : ℕ) → Type 0
IsOfLastRead old new seen last size before reads = (new ≡ old)
    ⊎ ((seen + last ≡ size) × (before + reads ≤ seen + 1))
