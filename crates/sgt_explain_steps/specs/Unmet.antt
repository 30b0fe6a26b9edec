-- A step of a walk, and what the entries of its site have of it.
use Rattle.std.specs.Prelude.{◌≡◌, ◌⊎◌, ℕ, ◌<◌, ◌≤◌, Bool, true, false, List, ◌∷◌, length, All, Contains, Option, Some, IfSome, IfNone, slice_get}
use Rattle.sgt_names.specs.Name.{Name}
use Rattle.sgt_names.specs.Entry.{tx_of, Reads, Writes, IsIncrement, Clash}
use Rattle.sgt_names.specs.Log.{Conflicts}
use Rattle.sgt_names.specs.declared.entry.Entry.{Entry}
use Rattle.sgt_names.specs.declared.entry.Kind.{Kind}
use Rattle.sgt_bundle.specs.Certificate.{stops}
use Rattle.sgt_bundle.specs.declared.certificate.Step.{Step}
use Rattle.sgt_bundle.specs.declared.certificate.Decision.{Decision}
use Rattle.sgt_bundle.specs.declared.certificate.Decision.TheVariants.{Refuse}
use Rattle.sgt_explain_lines.specs.Values.{entries_of}
use Rattle.sgt_explain_lines.specs.declared.section.Logged.{Logged}
use Rattle.sgt_explain_steps.specs.declared.unmet.Met.{Met}
use Rattle.sgt_explain_steps.specs.declared.unmet.Unmet.{Unmet}

-- no refusal of this number has a step at this place of its walk
abbrev pub NoStepAt : List Decision → (number place : ℕ) → Type 0
NoStepAt decisions number place = (tx : ℕ) (walk : List Step)
    → slice_get decisions number ≡ Some (Refuse tx walk) → length walk ≤ place

-- the walk of a refusal, and the step at a place of it with the transaction that it starts from
pub record IsStepAt (decisions : List Decision) (shown : Unmet) : Type 0 where
  pub walk : List Step
  pub refused : slice_get decisions shown.number ≡ Some (Refuse shown.tx walk)
  pub count : shown.count ≡ length walk
  pub step : slice_get walk shown.place ≡ Some shown.step
  pub from : slice_get (shown.tx ∷ stops walk) shown.place ≡ Some shown.from

-- the entry reads the item; else it changes it or asks to
abbrev pub Does : Bool → Name → Entry → Type 0
Does true x e = Reads x e
Does false x e = Writes x e

-- the entry shown is one of these, with its line: the transaction's own, which reads or changes the
-- item; none is shown where there is none
pub record ShowsOwn (entries : List Logged) (tx : ℕ) (reads : Bool) (x : Name) (shown : Option Logged) : Type 0 where
  pub there : IfSome shown (λ l. Contains entries l × (tx_of l.entry ≡ tx) × Does reads x l.entry)
  pub none : IfNone shown (All (λ l. tx_of l.entry ≡ tx → Does reads x l.entry → ⊥) entries)

-- the one entry stands before the other
pub record StandsBefore (entries : List Logged) (one other : Logged) : Type 0 where
  pub p : ℕ
  pub q : ℕ
  pub first : slice_get entries p ≡ Some one
  pub second : slice_get entries q ≡ Some other
  pub before : p < q

-- two entries that a step is about, the first its own and the second that of the transaction that
-- it leads to, are no conflict of its
-- kind: both are increments, or they stand in the other order
abbrev pub AreMisfit : List Logged → Logged → Logged → Type 0
AreMisfit entries one other = (IsIncrement one.entry × IsIncrement other.entry)
    ⊎ StandsBefore entries other one

-- the first entry is the transaction's, and in conflict with the second as the step says
abbrev pub StepsTo : ℕ → Step → Entry → Entry → Type 0
StepsTo tx step e f = (tx_of e ≡ tx) × Clash step.label.kind step.label.item e f

-- the conflict of the one transaction with the other that is there
pub record MeetsThere (entries : List Logged) (tx : ℕ) (step : Step) (met : Met) : Type 0 where
  pub clash : Clash met.kind step.label.item met.first.entry met.second.entry
  pub from : tx_of met.first.entry ≡ tx
  pub to : tx_of met.second.entry ≡ step.to
  pub order : StandsBefore entries met.first met.second

-- the conflict shown, of whatever kind, is there; none is shown where there is none
pub record ShowsOther (entries : List Logged) (tx : ℕ) (step : Step) (shown : Option Met) : Type 0 where
  pub there : IfSome shown (MeetsThere entries tx step)
  pub none : IfNone shown ((kind : Kind)
      → Conflicts (entries_of entries) kind step.label.item tx step.to → ⊥)

-- the step is the same, of the same refusal
pub record SameStep (found shown : Unmet) : Type 0 where
  pub tx : shown.tx ≡ found.tx
  pub number : shown.number ≡ found.number
  pub place : shown.place ≡ found.place
  pub count : shown.count ≡ found.count
  pub from : shown.from ≡ found.from
  pub step : shown.step ≡ found.step
