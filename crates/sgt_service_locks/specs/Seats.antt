-- What a call does to a seat.
use Rattle.std.specs.Prelude.{◌≡◌, ◌≢◌, ℕ, ◌+◌, [], replicate, MatchOption}
use Rattle.sgt_names.specs.Draft.{at_site}
use Rattle.sgt_workers.specs.declared.ticket.Ending.{Ending}
use Rattle.sgt_service_agreement.specs.declared.fault.ServiceFault.TheVariants.{NotPledged}
use Rattle.sgt_service_locks.specs.Counts.{capped, AreCounted, with_others, blocks_of, below}
use Rattle.sgt_service_locks.specs.Refused.{IsOfCall}
use Rattle.sgt_service_locks.specs.declared.active.Active.{Active}
use Rattle.sgt_service_locks.specs.declared.active.Back.{Back}
use Rattle.sgt_service_agreement.specs.declared.counts.EntryCounts.{EntryCounts}
use Rattle.sgt_service_locks.specs.declared.seat.Seat.{Seat}

abbrev pub no_counts : EntryCounts
no_counts = record { reads = 0; others = 0 }

module _ {L : Type 0} where
  -- a seat of a service of so many sites, from which nothing was done: one part of the ledger, and
  -- all counts 0
  abbrev pub IsNew : ℕ → Seat L → Type 0
  IsNew sites seat = (seat.share.parts ≡ 1) × (seat.share.amount ≡ 0)
      × (seat.counts.items ≡ replicate sites no_counts)
      × (seat.begun ≡ 0)

  -- it has one part of the ledger of begins, and no transaction was begun from it
  abbrev pub HasBegunNone : Seat L → Type 0
  HasBegunNone seat = (seat.begins.parts ≡ 1) × (seat.begins.amount ≡ 0)

  -- nothing of it changed
  abbrev pub SameSeat : Seat L → Seat L → Type 0
  SameSeat old new = (new.share ≡ old.share) × (new.counts.items ≡ old.counts.items)
      × (new.begun ≡ old.begun) × (new.number ≡ old.number)

  -- it began one more transaction
  abbrev pub CountsBegin : Seat L → Seat L → Type 0
  CountsBegin old new =
      (new.share ≡ old.share) × (new.counts.items ≡ old.counts.items)
      × (new.begun ≡ capped (old.begun + 1)) × (new.number ≡ old.number)

  -- it took one more decision, and wrote so many more other entries at each site
  abbrev pub CountsDecision : (ℕ → ℕ) → Seat L → Seat L → Type 0
  CountsDecision more old new =
      (new.share.parts ≡ old.share.parts) × (new.share.amount ≡ old.share.amount + 1)
      × AreCounted (λ site. with_others (more site)) old.counts.items new.counts.items
      × (new.begun ≡ old.begun) × (new.number ≡ old.number)

  -- a transaction was ended so: its decision counts, and its block at each site
  abbrev pub CountsEnd : Ending → Active → Seat L → Seat L → Type 0
  CountsEnd verdict active old new = CountsDecision (blocks_of verdict active.draft.touched) old new

  -- a touched site was found to have lost its pledge: the decision counts, and the blocks at the
  -- sites below
  abbrev pub CountsLoss : Ending → Active → ℕ → Seat L → Seat L → Type 0
  CountsLoss verdict active site old new =
      (at_site site active.draft.touched ≢ [])
      × CountsDecision (below site (blocks_of verdict active.draft.touched)) old new

  -- what comes back of a transaction without a ticket: itself, and then nothing is changed. Or
  -- nothing, where it was decided so and
  -- then a site had lost its pledge
  abbrev pub IsBack : (Ending → Type 0) → Active → Seat L → Seat L → Back → Type 0
  IsBack decided active old new back = MatchOption back.active
      ((verdict : Ending) × (site : ℕ) × decided verdict × (back.fault ≡ NotPledged site)
      × CountsLoss verdict active site old new)
      (λ same. (same ≡ active) × SameSeat old new × IsOfCall back.fault)
