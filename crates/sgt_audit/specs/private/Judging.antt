-- What each rule asks of a line, in terms of the open section's items and entries.
use Rattle.std.specs.Prelude.{◌≡◌, ℕ, ◌-◌, ◌<◌, List, [], length, Contains, Option, Some, None, Result, Ok, Err, slice_get}
use Rattle.std.specs.List.{last_or}
use Rattle.std.specs.Option.{ForSome}
use Rattle.sgt_names.specs.Entry.{item_of, IsOpen, Continues, GoesOn, GoesOnAsking}
use Rattle.sgt_names.specs.Log.{names, value_at}
use Rattle.sgt_names.specs.declared.entry.Entry.{Entry}
use Rattle.sgt_names.specs.declared.entry.Entry.TheVariants.{Read}
use Rattle.sgt_names.specs.declared.entry.Holding.{Holding}
use Rattle.sgt_notation.specs.declared.SectionLine.{SectionLine}
use Rattle.sgt_notation.specs.declared.SectionLine.TheVariants as Line
use Rattle.sgt_bundle.specs.Valid.{IsDecided}
use Rattle.sgt_bundle.specs.declared.bundle.SiteLog.{SiteLog}
use Rattle.sgt_bundle.specs.declared.certificate.Certificate.{Certificate}
use Rattle.sgt_bundle.specs.declared.certificate.Decision.{Decision}
use Rattle.sgt_audit.specs.Faults.{fault_number, items_in, entries_in, KeepsItself, Breaks}
use Rattle.sgt_audit.specs.declared.faults.Fault.{Fault}
use Rattle.sgt_audit.specs.declared.place.Last.{Last}
use Rattle.sgt_audit.specs.declared.place.Last.TheVariants as last

-- a read has the value of its item after these entries
abbrev pub IsLegalRead : List Holding → List Entry → Entry → Type 0
IsLegalRead items entries (Read tx x v) = value_at items entries x ≡ Some v
IsLegalRead items entries _ = Unit {0}

-- the line goes on with the block of the entry in front of it, if that is open
abbrev pub ContinuesBlock : Entry → SectionLine → Type 0
ContinuesBlock f line = IsOpen f → (e : Entry) × (line ≡ Line.Logged e) × Continues f e

-- the line goes on with the block that is open at the end of the log, if one is
abbrev pub ContinuesLog : SiteLog → SectionLine → Type 0
ContinuesLog log line = (f : Entry) → log.finals ≡ []
    → slice_get log.entries (length log.entries - 1) ≡ Some f → ContinuesBlock f line

-- the line may stand behind an entry of which this is kept
abbrev pub FollowsLast : Last → SectionLine → Type 0
FollowsLast (last.Changes tx) (Line.Logged e) = GoesOn tx e
FollowsLast (last.Changes tx) _ = ⊥
FollowsLast (last.Wants tx) (Line.Logged e) = GoesOnAsking tx e
FollowsLast (last.Wants tx) _ = ⊥
FollowsLast _ line = Unit {0}

-- the log is the one that these lines have open
pub record HasOpen (before : List SectionLine) (log : SiteLog) : Type 0 where
  pub items : items_in before ≡ log.items
  pub entries : entries_in before ≡ log.entries
  pub last : (f : Entry) → last_or None before ≡ Some (Line.Logged f)
      → (log.finals ≡ []) × (slice_get log.entries (length log.entries - 1) ≡ Some f)
  pub entry_last : (f : Entry) → log.finals ≡ []
      → slice_get log.entries (length log.entries - 1) ≡ Some f
      → last_or None before ≡ Some (Line.Logged f)

-- what what is kept asks of a line: an entry's item is listed, and its transaction is decided as it
-- says
abbrev pub AdmitsLine : List Decision → Option SiteLog → SectionLine → Type 0
AdmitsLine decisions (Some log) (Line.Logged e) = ForSome (item_of e) (Contains (names log.items))
    × ((number : ℕ) × IsDecided decisions e number)
AdmitsLine decisions _ _ = Unit {0}

-- every rule of smaller number is kept
abbrev pub KeptBelow : (Fault → Type 0) → ℕ → Type 0
KeptBelow rule n = (g : Fault) → fault_number g < n → rule g

-- every rule up to the one of walks is kept, or this is the least that is broken
abbrev pub JudgedLine : (Fault → Type 0) → Option Fault → Type 0
JudgedLine rule None = KeptBelow rule 17
JudgedLine rule (Some f) = Breaks rule f

-- the certificate, which keeps its rules, or the least that is broken
abbrev pub AnswersItself : Certificate → Result Certificate Fault → Type 0
AnswersItself certificate (Ok c) = (c ≡ certificate) × ((f : Fault) → KeepsItself c.decisions f)
AnswersItself certificate (Err f) = Breaks (KeepsItself certificate.decisions) f
