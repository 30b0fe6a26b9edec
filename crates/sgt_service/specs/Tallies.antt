-- What the workers of a run counted, whatever ledger they had their parts of.
use Rattle.std.specs.Prelude.{◌≡◌, ◌+◌, ℕ, List, [], ◌∷◌, replicate, fold}
use Rattle.sgt_notation.specs.declared.script.Op.{Op}
use Rattle.sgt_notation.specs.declared.script.Script.{Script}
use Rattle.sgt_service_agreement.specs.declared.counts.EntryCounts.{EntryCounts}
use Rattle.sgt_workers.specs.Answers.{AreShared}
use Rattle.sgt_workers.specs.declared.ticket.Done.{Done}
use Rattle.sgt_workers.specs.declared.ticket.Ticket.{Ticket}
use Rattle.sgt_service_locks.specs.Counts.{capped, AreCounted, with_others, blocks_of}
use Rattle.sgt_service_locks.specs.Seats.{no_counts}
use Rattle.sgt_service_locks.specs.Together.{added}
use Rattle.sgt_service_locks.specs.declared.active.Active.{Active}
use Rattle.sgt_service_locks.specs.declared.seat.Seat.{Seat}
use Rattle.sgt_service.specs.Operations.{TriesBy}
use Rattle.sgt_service.specs.Tries.{reads_at, with_reads}

-- how many transactions a worker began, up to the greatest number, how many of its were decided,
-- and its entries at each site
pub record Tally : Type 0 where
  pub begun : ℕ
  pub decided : ℕ
  pub counts : List EntryCounts

-- what a seat counted
abbrev pub tally_of : {L : Type 0} → Seat L → Tally
tally_of seat =
    record { begun = seat.begun; decided = seat.share.amount; counts = seat.counts.items }

-- nothing yet, at so many sites
abbrev pub no_tally : ℕ → Tally
no_tally sites = record { begun = 0; decided = 0; counts = replicate sites no_counts }

-- one transaction with this ticket, which tried the operations, and nothing else: one begin, one
-- decision, at each site as many reads as
-- its draft keeps there, and its block
abbrev pub TriesOnce : List Op → Ticket → Tally → Tally → Type 0
TriesOnce ops t old new = (active : Active) × (heard : List ℕ) × TriesBy active ops t heard
    × (new.begun ≡ capped (old.begun + 1)) × (new.decided ≡ old.decided + 1)
    × AreCounted (λ site c.
    with_others (blocks_of t.verdict active.draft.touched site)
    (with_reads (reads_at site active.draft.touched) c))
    old.counts new.counts

-- tries with these tickets, one after another
abbrev pub TriesInTurn : List Op → List Ticket → Tally → Tally → Type 0
TriesInTurn ops [] old new = new ≡ old
TriesInTurn ops (t ∷ ts) old new = (mid : Tally) × TriesOnce ops t old mid
    × TriesInTurn ops ts mid new

-- those of a job's script
abbrev pub DoesJob : Tally → ℕ → Script → Done → Tally → Type 0
DoesJob old number script d new = TriesInTurn script.operations d.tickets.items old new

-- the entries that they counted together at each of so many sites
abbrev pub counted_by : ℕ → List Tally → List EntryCounts
counted_by sites tallies =
    fold (λ counts (t : Tally). added counts t.counts) (replicate sites no_counts) tallies

-- The Dones are those of some workers who had counted nothing at so many sites, each of whom did
-- the tries of its share of the jobs and nothing
-- else; and these are the entries that they counted together.
pub record AreCountsOf (scripts : List Script) (sites : ℕ) (dones : List Done) (counts : List EntryCounts) : Type 0
  where
    pub workers : ℕ
    pub after : List Tally
    pub tried : AreShared DoesJob scripts (replicate workers (no_tally sites)) dones after
    pub counted : counts ≡ counted_by sites after
