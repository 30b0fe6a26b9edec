-- A text whose first two lines were read, and sections behind them.
use Rattle.std.specs.Prelude.{◌≡◌, ◌≢◌, ◌≤◌, ℕ, ◌+◌, ◌-◌, ◌*◌, ◌^◌, IfSome, List, [], length, Option, Result, Ok, Err}
use Rattle.std.specs.Io.KnownBytes.{Consumes}
use Rattle.sgt_notation.specs.Lines.{Gives}
use Rattle.sgt_notation.specs.declared.lines.Next.{Next}
use Rattle.sgt_notation.specs.declared.lines.Next.TheVariants.{TooLong}
use Rattle.sgt_audit.specs.Faults.{Stage, lines_so_far}
use Rattle.sgt_audit.specs.Progress.{Stands}
use Rattle.sgt_audit.specs.Verdict.{IsVerdict}
use Rattle.sgt_audit.specs.private.Ending.{limit_of}
use Rattle.sgt_audit.specs.private.Stops.{IsRest}
use Rattle.sgt_audit.specs.declared.machine.Progress.{Progress}
use Rattle.sgt_audit.specs.declared.verdict.Verdict.{Verdict}
use Rattle.sgt_audit_sections.specs.Sections.{front_text}
use Rattle.sgt_audit_workers.specs.Cut.{longest}
use Rattle.sgt_audit_workers.specs.Reads.{Reader, ReadsLittleFurther, room}
use Rattle.sgt_audit_workers.specs.declared.head.Begun.{Begun}
use Rattle.sgt_audit_workers.specs.declared.sections.Text.{Text}
use Rattle.sgt_audit_workers.specs.private.Texts.{HasRead}

-- the lines say that, and the sections come behind them
pub record IsBegun (first : Reader) (b : Begun) (text : Text) (now : Reader) : Type 0 where
  pub middle : Option (List ℕ)
  pub front : Consumes first.told middle (front_text b.head.second b.head.certificate [])
  pub sections : HasRead first middle b.ahead.items text now

-- sections of that length, twice as many as there are workers, have 8 MiB for each worker and the bytes of the second
-- line
abbrev pub IsMost : (workers second most : ℕ) → Type 0
IsMost workers second most = 2 * workers * longest most ≤ workers * room + second

-- this is the verdict on the text, and what was read goes little further than its fault
abbrev pub IsVerdictNear : (workers : ℕ) → (first now : Reader) → Verdict → Type 0
IsVerdictNear workers first now v = IfSome first.told (λ bytes. IsVerdict bytes v
    × ReadsLittleFurther workers bytes (now.asked - first.asked))

-- the lines have no fault, and so many sections are held at most; or this is the verdict
abbrev pub BeginsText : (workers : ℕ) → (first : Reader) → Text → (now : Reader)
    → Result Begun Verdict → Type 0
BeginsText workers first text now (Ok b) = IsBegun first b text now
BeginsText workers first text now (Err v) = IsVerdictNear workers first now v

-- what comes next of the text, in the line of this number, where the machine was fed the lines before it, and read no
-- more of it than its limit
pub record ComesBehind (p : Progress) (told old : Option (List ℕ)) (number : ℕ) (next : Next) (line : List ℕ)
    (new : Option (List ℕ)) : Type 0 where
  pub stage : Stage
  pub limit : ℕ
  pub stands : Stands p stage
  pub lines : IsRest stage told old
  pub counts : number ≡ length (lines_so_far stage) + 1
  pub limits : (s : Stage) → Stands p s → limit ≡ limit_of s
  pub gives : Gives limit old next line new
  pub short : length line ≤ limit
  pub unlimited : limit ≡ 2 ^ 64 - 1 → next ≢ TooLong
