-- What was judged of a text that a reader tells.
use Rattle.std.specs.Prelude.{◌≡◌, ◌<◌, ◌≤◌, ◌+◌, ◌⊎◌, ℕ, List, [], ◌++◌, length, Option, Some, None, Result, Ok, Err, IfSome, ⊤}
use Rattle.sgt_notation.specs.Spelling.{text_of_lines, HasNoLf}
use Rattle.sgt_notation.specs.Lines.{Ahead, coming}
use Rattle.sgt_audit.specs.declared.faults.Fault.{Fault}
use Rattle.sgt_audit.specs.declared.kept.Kept.{Kept}
use Rattle.sgt_audit.specs.declared.machine.Progress.{Progress}
use Rattle.sgt_audit.specs.declared.faults.FirstFault as found
use Rattle.sgt_audit.specs.Faults.{Stage, FirstFault, lines_so_far, reach}
use Rattle.sgt_audit.specs.Held.{IsAt}
use Rattle.sgt_audit.specs.private.Ending.{IsComplete, limit_of}
use Rattle.sgt_audit.specs.Progress.{Stands}

-- the bytes are the lines of the stage and then what comes
abbrev pub IsRest : Stage → Option (List ℕ) → Option (List ℕ) → Type 0
IsRest s None coming = ⊤
IsRest s (Some bytes) None = ⊥
IsRest s (Some bytes) (Some rest) = bytes ≡ text_of_lines (lines_so_far s) ++ rest

-- the machine stands at a stage of the text, this is the number of the next line, and there were no
-- more reads than bytes
abbrev pub Goes : Option (List ℕ) → Progress → Option (List ℕ) → ℕ → ℕ → Type 0
Goes told p coming n reads = (s : Stage) × Stands p s × IsRest s told coming
    × (n ≡ length (lines_so_far s) + 1)
    × (reads ≤ length (text_of_lines (lines_so_far s)))

-- the text has this first fault, and there were no more reads than bytes up to and with its line
abbrev pub MeetsFault : List ℕ → ℕ → Fault → ℕ → Type 0
MeetsFault bytes n f reads = (first : FirstFault bytes n f) × (reads ≤ reach bytes n f first)

-- the lines that were held whole were fed: the machine stands behind them, or the last of them has
-- the first fault of the text
abbrev pub FedHeld : Option (List ℕ) → Option (List ℕ) → Progress → Ahead → (n reads : ℕ)
    → Option Fault → Type 0
FedHeld all told p ahead n reads None = Goes all p (coming ahead told) n reads
FedHeld all told p ahead n reads (Some f) = IfSome all (λ bytes. MeetsFault bytes n f reads)

-- where reading stopped, with these bytes behind the last LF: at the first fault of the text that
-- was told, or at its end,
-- in the line of this number
abbrev pub IsStop : Option (List ℕ) → Result ℕ found.FirstFault → Progress → List ℕ → (reads : ℕ)
    → Type 0
IsStop told (Err first) p l reads =
    IfSome told (λ bytes. MeetsFault bytes first.line first.fault reads)
IsStop told (Ok n) p l reads = (s : Stage) × Stands p s × (length l ≤ limit_of s) × HasNoLf l
    × (reads ≤ length (text_of_lines (lines_so_far s)) + length l + 1)
    × IfSome told
    (λ bytes. (bytes ≡ text_of_lines (lines_so_far s) ++ l) × (n ≡ length (lines_so_far s) + 1))

-- when the last read began, fewer bytes than this had been given of those that were told. What is told
-- now is left, and the last read gave so many
abbrev pub BeganWithin : Option (List ℕ) → Option (List ℕ) → (last n : ℕ) → Type 0
BeganWithin None now last n = ⊤
BeganWithin (Some bytes) None last n = ⊤
BeganWithin (Some bytes) (Some left) last n = length bytes < n + (length left + last)

-- reading stopped there, and the last read began before that
abbrev pub BeganBefore : Option (List ℕ) → Option (List ℕ) → ℕ → Result ℕ found.FirstFault → Progress
    → List ℕ → Type 0
BeganBefore told now last stop p l = (n : ℕ) × IsStop told stop p l n × BeganWithin told now last n

-- no read was made so far and nothing is held; or the last one gave more than what is held still
abbrev pub IsOfLastRead : Option (List ℕ) → Option (List ℕ) → (held : List ℕ) (last : ℕ) → Type 0
IsOfLastRead told now held last = ((now ≡ told) × (held ≡ [])) ⊎ (length held < last)

-- what is kept is all of the lines of a text with no fault
abbrev pub IsWhole : Kept → Type 0
IsWhole k = (s : Stage) × IsAt k s × IsComplete s

-- the text has no fault, and is this; or it has this first fault
abbrev pub IsJudged : Result Kept found.FirstFault → List ℕ → Type 0
IsJudged (Ok k) bytes = (s : Stage) × IsAt k s × IsComplete s
    × (bytes ≡ text_of_lines (lines_so_far s))
IsJudged (Err first) bytes = FirstFault bytes first.line first.fault
