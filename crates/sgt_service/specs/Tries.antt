-- The tries of a script.
use Rattle.std.specs.Prelude.{◌≡◌, ◌⊎◌, ◌<◌, ◌+◌, ℕ, zero, suc, List, [], ◌∷◌, ◌++◌, length, All, None, IfSome, IsSome}
use Rattle.std.specs.List.{last_or, range_with_len}
use Rattle.sgt_names.specs.Draft.{at_site, kept_in}
use Rattle.sgt_names.specs.declared.draft.Touch.{Touch}
use Rattle.sgt_notation.specs.declared.script.Op.{Op}
use Rattle.sgt_notation.specs.declared.script.Op.TheVariants.{Read}
use Rattle.sgt_notation.specs.declared.script.Script.{Script}
use Rattle.sgt_workers.specs.Answers.{jobs_of, IsAnswer}
use Rattle.sgt_workers.specs.declared.ticket.Done.{Done}
use Rattle.sgt_workers.specs.declared.ticket.Ending.{Ending}
use Rattle.sgt_workers.specs.declared.ticket.Ending.TheVariants.{Refused}
use Rattle.sgt_workers.specs.declared.ticket.Ticket.{Ticket}
use Rattle.sgt_service_agreement.specs.declared.counts.EntryCounts.{EntryCounts}
use Rattle.sgt_service_agreement.specs.declared.fault.ServiceFault.{ServiceFault}
use Rattle.sgt_service_agreement.specs.declared.fault.ServiceFault.TheVariants.{NotPledged}
use Rattle.sgt_service_locks.specs.Counts.{capped, AreCounted, only_at, with_read, with_others, blocks_of}
use Rattle.sgt_service_locks.specs.Reads.{look_in}
use Rattle.sgt_service_locks.specs.declared.active.Active.{Active}
use Rattle.sgt_service_locks.specs.declared.seat.Seat.{Seat}
use Rattle.sgt_service.specs.Operations.{Tries, TriesBy}

abbrev pub IsRefused : Ticket → Type 0
IsRefused t = t.verdict ≡ Refused

-- the tickets of a script that may be tried so often: all but the last are refused, and the last
-- only where no try is left
pub record AreTries (tries : ℕ) (tickets : List Ticket) : Type 0 where
  pub refusals : List Ticket
  pub last : Ticket
  pub all : tickets ≡ refusals ++ last ∷ []
  pub refused : All IsRefused refusals
  pub few : length refusals < tries
  pub spent : IsRefused last → length refusals + 1 ≡ tries

-- the ticket is of a transaction that did just these operations
abbrev pub IsTryOf : List Op → Ticket → Type 0
IsTryOf ops t = (heard : List ℕ) × Tries ops t heard

-- each ticket is that of a try of these operations, and the values are those that the reads of the
-- last try answered
pub record AreTriesOf (tries : ℕ) (ops : List Op) (tickets : List Ticket) (reads : List ℕ) : Type 0 where
  pub whole : AreTries tries tickets
  pub each : All (IsTryOf ops) tickets
  pub last : IfSome (last_or None tickets) (λ t. Tries ops t reads)

-- the script was tried up to so often, with these tickets and what its last try's reads answered
abbrev pub IsDoneOf : ℕ → Script → Done → Type 0
IsDoneOf tries script d = AreTriesOf tries script.operations d.tickets.items d.reads.items

-- a Done for each script, in their order, which is of that script
pub record AreDonesOf (scripts : List Script) (tries : ℕ) (dones : List Done) : Type 0 where
  pub jobs : jobs_of dones ≡ range_with_len 1 (length scripts)
  pub each : All (IsAnswer (λ number script d. IsDoneOf tries script d) scripts) dones

-- ---- what tries do to the seat of their worker

-- how many reads of items of the site the draft keeps
abbrev pub reads_at : ℕ → List Touch → ℕ
reads_at site touched = length (kept_in (at_site site touched))

-- after so many more logged reads
abbrev pub with_reads : ℕ → EntryCounts → EntryCounts
with_reads zero c = c
with_reads (suc n) c = record c { reads = capped (c.reads + suc n) }

-- one operation counts a read of what its draft doesn't show, at the site of it, and nothing else
abbrev pub CountsOp : Op → List Touch → (old new : List EntryCounts) → Type 0
CountsOp (Read s x) touched old new =
    (look_in touched s x ≡ None → AreCounted (only_at s with_read) old new)
    × (IsSome (look_in touched s x) → new ≡ old)
CountsOp _ touched old new = new ≡ old

-- at each site as many reads more are counted as the draft keeps more of there, and nothing else
abbrev pub CountsReads : (old new : List Touch) → (counts counts' : List EntryCounts) → Type 0
CountsReads old new counts counts' = (more : ℕ → ℕ)
    × ((site : ℕ) → reads_at site new ≡ reads_at site old + more site)
    × AreCounted (λ site. with_reads (more site)) counts counts'

module _ {L : Type 0} where
  -- one transaction was begun and ended so, with this draft: one begin, one decision, at each site
  -- as many reads as the draft keeps there,
  -- and the block of this transaction
  abbrev pub CountsTry : Ending → List Touch → Seat L → Seat L → Type 0
  CountsTry verdict touched old new = (new.begun ≡ capped (old.begun + 1))
      × (new.share.parts ≡ old.share.parts)
      × (new.share.amount ≡ old.share.amount + 1)
      × AreCounted (λ site c.
      with_others (blocks_of verdict touched site)
      (with_reads (reads_at site touched) c)) old.counts.items new.counts.items
      × (new.begins.amount ≡ old.begins.amount + 1)

  -- the one transaction that the seat counts is the one that tried the script
  abbrev pub TriesAt : List Op → Ticket → List ℕ → Seat L → Seat L → Type 0
  TriesAt ops t reads old new = (active : Active) × TriesBy active ops t reads
      × CountsTry t.verdict active.draft.touched old new

  -- tries with these tickets, one after another
  abbrev pub AreTried : List Op → List Ticket → Seat L → Seat L → Type 0
  AreTried ops [] old new = new ≡ old
  AreTried ops (t ∷ ts) old new = (mid : Seat L) × ((heard : List ℕ) × TriesAt ops t heard old mid)
      × AreTried ops ts mid new

  -- those of a job's script
  abbrev pub TriesJob : Seat L → ℕ → Script → Done → Seat L → Type 0
  TriesJob old number script d new = AreTried script.operations d.tickets.items old new

  -- a try without a ticket took no decision. Or it took one, and V7 names the site that had lost
  -- its pledge
  abbrev pub IsStopped : Seat L → Seat L → ServiceFault → Type 0
  IsStopped old new f = (new.share ≡ old.share)
      ⊎ ((site : ℕ) × (f ≡ NotPledged site) × (new.share.amount ≡ old.share.amount + 1))
