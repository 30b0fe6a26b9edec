-- What a run of an input writes: a line for each script, the verdict on the run's own bundle, and
-- the bundle.
use Rattle.std.specs.Prelude.{◌≡◌, ◌≢◌, ◌⊎◌, ◌↔◌, ◌-◌, ◌++◌, ⊤, ℕ, List, [], length, map, take, codes, decimal, All}
use Rattle.std.specs.Prelude.{Option, Some, IfSome, slice_get}
use Rattle.std.specs.Io.KnownBytes.{Appends}
use Rattle.sgt_names.specs.Log.{names}
use Rattle.sgt_names.specs.Device.{AppendsOrForgets, WritesFront}
use Rattle.sgt_names.specs.declared.entry.Holding.{Holding}
use Rattle.sgt_names.specs.declared.outcome.Outcome.{Outcome}
use Rattle.sgt_names.specs.declared.outcome.Outcome.TheVariants as outcome
use Rattle.sgt_notation.specs.Spelling.{text_of_lines}
use Rattle.sgt_notation.specs.declared.fault.NotationFault.{NotationFault}
use Rattle.sgt_notation.specs.declared.fault.NotationFault.TheVariants as notation
use Rattle.sgt_notation.specs.declared.script.Script.{Script}
use Rattle.sgt_bundle.specs.Parts.{Parts}
use Rattle.sgt_bundle.specs.Text.{text_of}
use Rattle.sgt_input.specs.Unreadable.{unreadable_text}
use Rattle.sgt_certifier.specs.History.{Replays}
use Rattle.sgt_certifier.specs.Kept.{Kept}
use Rattle.sgt_service_agreement.specs.declared.fault.ServiceFault.{ServiceFault}
use Rattle.sgt_service_agreement.specs.declared.fault.ServiceFault.TheVariants as fault
use Rattle.sgt_workers.specs.declared.ticket.Done.{Done}
use Rattle.sgt_workers.specs.declared.fault.PoolFail.{PoolFail}
use Rattle.sgt_workers.specs.declared.fault.PoolFail.TheVariants.{Work, Pool}
use Rattle.sgt_workers.specs.declared.fault.PoolFault.{PoolFault}
use Rattle.sgt_workers.specs.declared.fault.PoolFault.TheVariants as pool
use Rattle.sgt_audit.specs.Verdict.{IsVerdict, SaysHeadline}
use Rattle.sgt_audit.specs.Verdict as auditor
use Rattle.sgt_audit.specs.declared.verdict.Verdict.{Verdict}
use Rattle.sgt_audit.specs.declared.verdict.Verdict.TheVariants.{Yes, No}
use Rattle.sgt_service_locks.specs.Guarded.{decision_count}
use Rattle.sgt_service_settle.specs.Settled.{AreKept, IsSettled, Run, tickets_of}
use Rattle.sgt_service_settle.specs.Fault.{IsUnsettled}
use Rattle.sgt_service.specs.Bundle.{IsBundleOf, IsToldAlone}
use Rattle.sgt_service.specs.Input.{FirstUnreadable, Spells}
use Rattle.sgt_service.specs.Results.{IsCommitted, done_text}
use Rattle.sgt_service.specs.Tallies.{AreCountsOf}
use Rattle.sgt_service.specs.Told.{EndsTry}
use Rattle.sgt_service.specs.Tries.{AreDonesOf}
use Rattle.sgt_service.specs.declared.input.Input.{Input}

-- ---- a run of an input

-- a run of these scripts at so many sites: each script has its tries, each site is there, as many
-- decisions were taken as there are tickets,
-- and what was counted at the sites is what the workers of these tries wrote there
pub record IsRunOf (scripts : List Script) (places tries : ℕ) (run : Run) : Type 0 where
  pub dones : AreDonesOf scripts tries run.dones
  pub sites : length run.sites ≡ places
  pub decided : decision_count run.certifier ≡ length (tickets_of run.dones)
  pub counted : AreCountsOf scripts places run.dones run.counts

-- the items of each site with their first values
abbrev pub site_items : Run → List (List Holding)
site_items run = map (λ s. s.items) run.sites

abbrev pub IsYes : Verdict → Type 0
IsYes (Yes committed refused withdrawn) = ⊤
IsYes (No line f) = ⊥

-- yes where each script was committed and the verdict is yes, and else no
abbrev pub IsOutcome : List Done → Verdict → Outcome → Type 0
IsOutcome dones v outcome.Yes = All IsCommitted dones × IsYes v
IsOutcome dones v outcome.No = All IsCommitted dones × IsYes v → ⊥
IsOutcome dones v outcome.Unreadable = ⊥

-- the text of a run: a line for each script, the verdict on the text of the run's bundle, and that
-- text
pub record IsTextOf (run : Run) (o : Outcome) (text : List ℕ) : Type 0 where
  pub whole : Parts
  pub bundled : IsBundleOf run whole
  pub verdict : Verdict
  pub judged : IsVerdict (text_of whole) verdict
  -- a yes says that what the threads committed is serializable
  pub headline : SaysHeadline (text_of whole) verdict
  pub ends : IsOutcome run.dones verdict o
  pub written : text ≡ text_of_lines (map done_text run.dones) ++ (auditor.text_of verdict ++ (codes "---\n" ++ text_of whole))

-- the text of a settled run of the input's scripts, which began with the input's sites
abbrev pub IsRunText : Input → ℕ → Outcome → List ℕ → Type 0
IsRunText input tries o text = (run : Run) × IsSettled run
    × IsRunOf input.scripts (length input.sites) tries run
    × (site_items run ≡ map (λ l. l.items) input.sites) × IsTextOf run o text

-- ---- a run that a fault ends

abbrev pub service_fault_number : ServiceFault → ℕ
service_fault_number (fault.StrayTicket number) = 1
service_fault_number (fault.TwoTickets number) = 2
service_fault_number fault.Memory = 3
service_fault_number (fault.Site f) = 4
service_fault_number (fault.Certifier f) = 4
service_fault_number fault.SumTooLarge = 5
service_fault_number (fault.MissingTicket number) = 6
service_fault_number (fault.NotPledged site) = 7
service_fault_number (fault.TicketOrder job) = 8
service_fault_number (fault.LogDiffers site) = 9
service_fault_number (fault.VersionsDiffer site) = 10

abbrev pub pool_fault_number : PoolFault → ℕ
pool_fault_number pool.Memory = 1
pool_fault_number (pool.Unrun job) = 2
pool_fault_number (pool.Doubled job) = 3

-- V4 or V7: a call of a transaction that tried one of these scripts, at sites with these items, was
-- refused, and not for want of memory
abbrev pub IsOfRun : List Script → List (List Holding) → ServiceFault → Type 0
IsOfRun scripts items f = (f ≢ fault.Memory)
    × ((number : ℕ) × (s : Script) × (slice_get scripts (number - 1) ≡ Some s)
    × EndsTry (length items) (map names items) s f)

-- these are a run's certifier and its Dones: each script has its tries, and as many decisions were
-- taken as there are tickets
pub record AreToldOf (scripts : List Script) (tries : ℕ) (c : Kept) (dones : List Done) : Type 0 where
  pub dones_of : AreDonesOf scripts tries dones
  pub decided : decision_count c ≡ length (tickets_of dones)

-- a run of these scripts isn't settled; or its certifier and its tickets tell the fault without the
-- sites
abbrev pub EndsUnsettled : List Script → (places tries : ℕ) → ServiceFault → Type 0
EndsUnsettled scripts places tries f =
    ((run : Run) × IsRunOf scripts places tries run × AreKept run × IsUnsettled run f)
    ⊎ ((c : Kept) × (dones : List Done) × AreToldOf scripts tries c dones
    × Replays c.history c.state × IsToldAlone c dones f)

-- the site of this number is the first that has other items or first values than were given
pub record BeganOtherwise (given found : List (List Holding)) (number : ℕ) : Type 0 where
  pub other : slice_get found number ≢ slice_get given number
  pub before : take number found ≡ take number given

-- a run of these scripts is settled, but that site isn't the one that was put there. V9 tells it
pub record EndsElsewhere (scripts : List Script) (items : List (List Holding)) (tries : ℕ) (f : ServiceFault) : Type 0
  where
    pub run : Run
    pub settled : IsSettled run
    pub of : IsRunOf scripts (length items) tries run
    pub number : ℕ
    pub began : BeganOtherwise items (site_items run) number
    pub told : f ≡ fault.LogDiffers number

-- what may end a run of these scripts at sites with these items: a call of the service, or a run that
-- isn't settled or isn't theirs. The pool has no fault of its own but want of memory
abbrev pub EndsRun : List Script → List (List Holding) → ℕ → PoolFail ServiceFault → Type 0
EndsRun scripts items tries (Work f) =
    IsOfRun scripts items f ⊎ (EndsUnsettled scripts (length items) tries f ⊎ EndsElsewhere scripts items tries f)
EndsRun scripts items tries (Pool f) = ⊥

-- want of memory, which ends a run too and is never told
abbrev pub IsWant : PoolFail ServiceFault → Type 0
IsWant (Work f) = f ≡ fault.Memory
IsWant (Pool f) = f ≡ pool.Memory

-- the line of a fault: its number alone. Want of memory has none
abbrev pub IsFaultLine : PoolFail ServiceFault → List ℕ → Type 0
IsFaultLine (Work f) text = (f ≢ fault.Memory) × (text ≡ codes "! V" ++ (decimal (service_fault_number f) ++ codes "\n"))
IsFaultLine (Pool f) text = (f ≢ pool.Memory) × (text ≡ codes "! P" ++ (decimal (pool_fault_number f) ++ codes "\n"))

-- the line of a fault that ended the run of the input's scripts
abbrev pub IsFaultText : Input → ℕ → List ℕ → Type 0
IsFaultText input tries text =
    (f : PoolFail ServiceFault) × EndsRun input.scripts (map (λ l. l.items) input.sites) tries f
    × IsFaultLine f text

-- ---- what an input is answered by

-- the text of its run, or the line of the fault that ended it
abbrev pub IsRunAnswer : Input → ℕ → Outcome → List ℕ → Type 0
IsRunAnswer input tries outcome.Yes text = IsRunText input tries outcome.Yes text
IsRunAnswer input tries outcome.No text = IsRunText input tries outcome.No text
    ⊎ IsFaultText input tries text
IsRunAnswer input tries outcome.Unreadable text = ⊥

-- what was told is answered: an input by its run, with so many tries for each script; other bytes
-- by their first line that can't be
-- read
abbrev pub IsAnswer : ℕ → (told : Option (List ℕ)) → Outcome → List ℕ → Type 0
IsAnswer tries told outcome.Yes text =
    (input : Input) × IfSome told (λ bytes. Spells bytes input)
    × IsRunAnswer input tries outcome.Yes text
IsAnswer tries told outcome.No text =
    (input : Input) × IfSome told (λ bytes. Spells bytes input)
    × IsRunAnswer input tries outcome.No text
IsAnswer tries told outcome.Unreadable text = (line : ℕ) × (f : NotationFault)
    × (f ≢ notation.Memory)
    × IfSome told (λ bytes. FirstUnreadable bytes line f) × (text ≡ unreadable_text line f)

-- it is called unreadable exactly where the bytes spell no input
abbrev pub TellsUnreadable : List ℕ → Outcome → Type 0
TellsUnreadable bytes o = (o ≡ outcome.Unreadable) ↔ ((input : Input) → Spells bytes input → ⊥)

-- that text was written
abbrev pub WroteAnswer : ℕ → (told : Option (List ℕ)) → Outcome → (old new : Option (List ℕ))
    → Type 0
WroteAnswer tries told o old new = (text : List ℕ) × IsAnswer tries told o text
    × Appends old new text

-- nothing was written, or a front of the text that is the answer, and less than the whole text
abbrev pub WroteAnswerFront : ℕ → (told old new : Option (List ℕ)) → Type 0
WroteAnswerFront tries told old new = AppendsOrForgets old new []
    ⊎ ((o : Outcome) × (text : List ℕ) × IsAnswer tries told o text × WritesFront old new text)
