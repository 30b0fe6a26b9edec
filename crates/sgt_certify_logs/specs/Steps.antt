-- Cycles that are told step by step: each step by the two entries of a log that show it.
use Rattle.std.specs.Prelude.{◌≡◌, ◌≢◌, ℕ, ◌<◌, List, [], ◌∷◌, Some, slice_get}
use Rattle.sgt_names.specs.Entry.{tx_of, Clash, IsEnd}
use Rattle.sgt_names.specs.declared.entry.Entry.{Entry}
use Rattle.sgt_names.specs.declared.entry.Entry.TheVariants.{Commit}
use Rattle.sgt_bundle.specs.declared.bundle.SiteLog.{SiteLog}
use Rattle.sgt_certify_logs.specs.declared.checks.ConflictStep.{ConflictStep}
use Rattle.sgt_certify_logs.specs.declared.checks.EndStep.{EndStep}
use Rattle.sgt_certify_logs.specs.declared.checks.Spot.{Spot}

-- the entry stands at this place of the log of this site
pub record StandsAt (sites : List SiteLog) (site place : ℕ) (e : Entry) : Type 0 where
  pub log : SiteLog
  pub here : slice_get sites site ≡ Some log
  pub there : slice_get log.entries place ≡ Some e

-- an end of the first transaction stands before one of the second, at these places
pub record IsEndStep (sites : List SiteLog) (step : EndStep) : Type 0 where
  pub e : Entry
  pub f : Entry
  pub before : step.first.entry < step.second
  pub first : StandsAt sites step.first.site step.first.entry e
  pub second : StandsAt sites step.first.site step.second f
  pub ends : IsEnd e × IsEnd f
  pub from : tx_of e ≡ step.from
  pub to : tx_of f ≡ step.to

-- an entry of the first transaction stands before one of the second and conflicts with it as the step
-- says, at these places
pub record HasConflict (sites : List SiteLog) (step : ConflictStep) : Type 0 where
  pub e : Entry
  pub f : Entry
  pub before : step.first.entry < step.second
  pub first : StandsAt sites step.first.site step.first.entry e
  pub second : StandsAt sites step.first.site step.second f
  pub from : tx_of e ≡ step.from
  pub to : tx_of f ≡ step.to
  pub apart : step.from ≢ step.to
  pub clash : Clash step.kind step.item e f

-- logs commit both of its transactions, at these places
abbrev pub AreCommittedBy : List SiteLog → ConflictStep → Type 0
AreCommittedBy sites step = StandsAt sites step.from_end.site step.from_end.entry (Commit step.from)
    × StandsAt sites step.to_end.site step.to_end.entry (Commit step.to)

-- the step is a conflict of two committed transactions
abbrev pub IsConflictStep : List SiteLog → ConflictStep → Type 0
IsConflictStep sites step = HasConflict sites step × AreCommittedBy sites step

-- steps that hold lead from a to b, each going on where the one before it led
abbrev pub LeadFrom : {S : Type 0} → (from to : S → ℕ) → (S → Type 0) → ℕ → List S → ℕ → Type 0
LeadFrom from to Holds a [] b = a ≡ b
LeadFrom from to Holds a (s ∷ steps) b = (from s ≡ a) × Holds s × LeadFrom from to Holds (to s) steps b

-- there is a first step, and they lead back to where it begins
abbrev pub LeadRound : {S : Type 0} → (from to : S → ℕ) → (S → Type 0) → List S → Type 0
LeadRound from to Holds [] = ⊥
LeadRound from to Holds (s ∷ steps) = LeadFrom from to Holds (from s) (s ∷ steps) (from s)

-- the steps are a cycle of ends, or of committed conflicts, that the logs have
abbrev pub IsEndCycle : List SiteLog → List EndStep → Type 0
IsEndCycle sites steps = LeadRound (λ (s : EndStep). s.from) (λ (s : EndStep). s.to) (IsEndStep sites) steps

abbrev pub IsConflictCycle : List SiteLog → List ConflictStep → Type 0
IsConflictCycle sites steps =
    LeadRound (λ (s : ConflictStep). s.from) (λ (s : ConflictStep). s.to) (IsConflictStep sites) steps
