-- A text as far as its sections were read.
use Rattle.std.specs.Prelude.{◌≡◌, ◌≢◌, ◌≤◌, ℕ, ◌+◌, Bool, true, false, IsTrue, List, [], ◌∷◌, ◌++◌, length, Option, Some, None, IfSome, Result, Ok, Err}
use Rattle.std.specs.Io.KnownBytes.{Consumes, IsAtEnd}
use Rattle.sgt_names.specs.Limits.{max_line, most_reads}
use Rattle.sgt_names.specs.declared.outcome.EngineFail.{EngineFail}
use Rattle.sgt_notation.specs.Lines.{Ahead, IsLongerThan, Spends, coming}
use Rattle.sgt_audit_workers.specs.Cut.{IsShort, StopsAt, longest}
use Rattle.sgt_audit_workers.specs.Reads.{IsDue, Reader}
use Rattle.sgt_audit_workers.specs.declared.cutting.Stop.{Stop}
use Rattle.sgt_audit_workers.specs.declared.cutting.Stop.TheVariants as stop
use Rattle.sgt_audit_workers.specs.declared.sections.Section.{Section}
use Rattle.sgt_audit_workers.specs.declared.sections.State.{State}
use Rattle.sgt_audit_workers.specs.declared.sections.State.TheVariants.{Going, Ended, Open}
use Rattle.sgt_audit_workers.specs.declared.sections.Text.{Text}

abbrev pub IsOpenState : State → Type 0
IsOpenState (Open bytes stop) = Unit {0}
IsOpenState _ = ⊥

-- what is known of failures, where reading stopped so
abbrev pub MayFail : (first now : Reader) → Result Stop EngineFail → Type 0
MayFail first now (Ok stop) = now.failures ≡ first.failures
MayFail first now (Err e) = IsDue first now e

abbrev pub StateFails : (first now : Reader) → State → Type 0
StateFails first now (Open bytes stop) = MayFail first now stop
StateFails first now _ = now.failures ≡ first.failures

-- the reader was asked so often, and a failure stands in the state
pub record IsAsked (first : Reader) (text : Text) (now : Reader) : Type 0 where
  pub asks : now.asked + text.lines.reads ≡ first.asked + most_reads
  pub once : now.failures ≤ first.failures + 1
  pub fails : StateFails first now text.state

-- of what is left these bytes were read and stand open, and each read, of those that are gone, took
-- a byte at least, but for a few
pub record IsOpen (first : Reader) (lines : Ahead) (most : ℕ) (now : Reader) (left : Option (List ℕ)) (bytes : List ℕ)
    (stop : Result Stop EngineFail) : Type 0 where
  pub behind : Option (List ℕ)
  pub idle : ℕ
  pub read : Consumes left behind bytes
  pub spends : Spends most_reads first.told (lines.reads + idle) behind
  pub short : IsShort most idle (length bytes)
  pub stops : StopsAt behind (coming lines now.told) idle stop

-- this is left of the text behind the sections that were read whole
abbrev pub IsLeftIn : Reader → Ahead → (most : ℕ) → Reader → Option (List ℕ) → State → Type 0
IsLeftIn first lines most now left Going = (left ≡ coming lines now.told)
    × Spends most_reads first.told lines.reads left
IsLeftIn first lines most now left Ended = IsAtEnd left
    × Spends most_reads first.told (lines.reads + 1) left
IsLeftIn first lines most now left (Open bytes stop) =
    IsOpen first lines most now left bytes.items stop

abbrev pub IsLeft : Reader → Text → Reader → Option (List ℕ) → Type 0
IsLeft first text now left = IsLeftIn first text.lines text.most now left text.state

-- the section came next, and nothing comes behind it, if it is the last; it is not longer than this
pub record IsNextSection (most : ℕ) (old : Option (List ℕ)) (section : Section) (new : Option (List ℕ)) : Type 0 where
  pub bytes : Consumes old new section.bytes.items
  pub last : IsTrue section.is_last → IsAtEnd new
  pub short : length section.bytes.items + 2 ≤ longest most

-- the sections came one after another, and each has bytes
abbrev pub AreAhead : (most : ℕ) → (old : Option (List ℕ)) → List Section → Option (List ℕ)
    → Type 0
AreAhead most old [] new = Consumes old new []
AreAhead most old (section ∷ ahead) new = (next : Option (List ℕ))
    × IsNextSection most old section next × (section.bytes.items ≢ [])
    × AreAhead most next ahead new

-- these sections of what was left were read, and this is left of it now
abbrev pub HasRead : Reader → (from : Option (List ℕ)) → List Section → Text → Reader → Type 0
HasRead first from ahead text now = (left : Option (List ℕ)) × AreAhead text.most from ahead left
    × IsLeft first text now left

-- a section came next, or none, and this is left
abbrev pub CameNext : Reader → (from : Option (List ℕ)) → Option Section → Text → Reader → Type 0
CameNext first from (Some section) text now = (left : Option (List ℕ))
    × IsNextSection text.most from section left × IsLeft first text now left
CameNext first from None text now = IsLeft first text now from

-- the section came next, and behind it these
abbrev pub IsFirstAhead : Reader → (from : Option (List ℕ)) → Option Section → List Section → Text
    → Reader → Type 0
IsFirstAhead first from (Some section) ahead text now = (next : Option (List ℕ))
    × IsNextSection text.most from section next × HasRead first next ahead text now
IsFirstAhead first from None ahead text now = HasRead first from [] text now

-- as one more section, where no more is read whole
abbrev pub spare : State → ℕ
spare Going = 0
spare _ = 1

-- what comes behind a piece that stopped so
abbrev pub IsStateOpen : State → Result Stop EngineFail → Type 0
IsStateOpen (Open bytes stop) is = (bytes.items ≡ []) × (stop ≡ is)
IsStateOpen _ is = ⊥

abbrev pub IsStateBehind : Result Stop EngineFail → State → Type 0
IsStateBehind (Ok stop.Section) state = state ≡ Going
IsStateBehind (Ok stop.Room) state = state ≡ Going
IsStateBehind (Ok stop.Text) state = state ≡ Ended
IsStateBehind (Ok stop.Long) state = IsStateOpen state (Ok stop.Long)
IsStateBehind (Err e) state = IsStateOpen state (Err e)

-- what is known of what is left behind a piece that stopped so
abbrev pub IsLeftBehind : Result Stop EngineFail → Option (List ℕ) → Type 0
IsLeftBehind (Ok stop.Text) left = IsAtEnd left
IsLeftBehind (Ok stop.Long) left = IfSome left (IsLongerThan max_line)
IsLeftBehind _ left = Unit {0}

-- More was read behind these bytes of a section, and this is left.
pub record IsReadOn (first : Reader) (from : Option (List ℕ)) (before after : List ℕ) (stop : Result Stop EngineFail)
    (text : Text) (now : Reader) : Type 0 where
  pub piece : List ℕ
  pub left : Option (List ℕ)
  pub bytes : after ≡ before ++ piece
  pub read : Consumes from left piece
  pub rest : IsLeft first text now left
  pub short : length after + 2 ≤ longest text.most
  pub behind : IsLeftBehind stop left

-- so much of a section was read, of which these bytes are held, and this is left behind it
pub record IsOpened (first : Reader) (from : Option (List ℕ)) (read bytes : List ℕ) (stop : Result Stop EngineFail)
    (text : Text) (now : Reader) : Type 0 where
  pub left : Option (List ℕ)
  pub came : Consumes from left read
  pub rest : IsLeft first text now left
  pub short : length bytes + 2 ≤ longest text.most
  pub behind : IsLeftBehind stop left

-- whether nothing comes
abbrev pub EndsHere : (left : Option (List ℕ)) → Bool → Type 0
EndsHere left true = IsAtEnd left
EndsHere left false = IfSome left (λ rest. rest ≢ [])

-- the reader was asked no more often than there are bytes up to what is left, and so many times
abbrev pub HasAsked : Reader → (left : Option (List ℕ)) → ℕ → (now : Reader) → Type 0
HasAsked first left more now = IfSome first.told (λ bytes. IfSome left
    (λ rest. now.asked + length rest ≤ first.asked + length bytes + more))

-- how a section that came whole stopped, where it is the open one
abbrev pub stop_before : State → Stop
stop_before Ended = stop.Text
stop_before _ = stop.Section

-- what is open begins with bytes, or a line that is too long comes there, or reading failed there
abbrev pub MayOpenEmpty : Result Stop EngineFail → Type 0
MayOpenEmpty (Ok stop.Long) = Unit {0}
MayOpenEmpty (Err e) = Unit {0}
MayOpenEmpty _ = ⊥

abbrev pub IsSettled : State → Type 0
IsSettled (Open bytes stop) = bytes.items ≡ [] → MayOpenEmpty stop
IsSettled _ = Unit {0}
