-- The pledges of a step, and the blocks that are written for them.
use Rattle.std.specs.Prelude.{◌≡◌, ◌+◌, ℕ, true}
use Rattle.sgt_site.specs.State.{SiteState, IsPledged, IsPledgedFor}
use Rattle.sgt_workers.specs.declared.ticket.Ending.{Ending}
use Rattle.sgt_workers.specs.declared.ticket.Ending.TheVariants.{Withdrawn}
use Rattle.sgt_service_locks.specs.Guarded.{IsEnded}
use Rattle.sgt_service_locks.specs.declared.active.Active.{Active}
use Rattle.sgt_service_locks.specs.declared.pledges.Blocks.{Blocks}
use Rattle.sgt_service_locks.specs.declared.pledges.Pledges.{Pledges}

-- those at all of so many sites, of which none is given back
abbrev pub IsWhole : ℕ → Pledges → Type 0
IsWhole sites p = (p.given ≡ 0) × (p.below ≡ sites)

-- one more was taken
abbrev pub TakesNext : Pledges → Pledges → Type 0
TakesNext old new = (new.given ≡ old.given) × (new.below ≡ old.below + 1)

-- one more block was written, or isn't owed
abbrev pub WritesNext : Blocks → Blocks → Type 0
WritesNext old new = (new.written ≡ old.written + 1) × (new.below ≡ old.below)

-- none was written, and no further one will be
abbrev pub Stops : Blocks → Blocks → Type 0
Stops old new = (new.stopped ≡ true) × (new.written ≡ old.written) × (new.below ≡ old.below)

-- the log of the site of this number ends with the block of a transaction that was decided so,
-- which has spent its pledge
abbrev pub HasBlock : Ending → Active → ℕ → SiteState → Type 0
HasBlock verdict active here s = (before : SiteState) × (before.number ≡ here)
    × IsEnded verdict active before s

-- what stands at the place of this number has another one, or no pledge of the transaction: none
-- for its draft, where it was decided, and
-- none at all, where it was withdrawn
abbrev pub HasLostPledge : Ending → Active → ℕ → SiteState → Type 0
HasLostPledge Withdrawn active here s = s.number ≡ here → IsPledged s active.tx → ⊥
HasLostPledge _ active here s = s.number ≡ here → IsPledgedFor s active.tx active.draft.touched → ⊥
