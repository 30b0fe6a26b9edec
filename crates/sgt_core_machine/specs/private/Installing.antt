-- A block of a decided transaction is written at a site, and its step ends behind the last.
use Rattle.std.specs.Prelude.{◌≡◌, ◌≢◌, ℕ, List, Option, Some, None, slice_get, slice_set, length}
use Rattle.sgt_site.specs.State.{IsPledgedFor}
use Rattle.sgt_certifier.specs.History.{IsInstalling}
use Rattle.sgt_certifier.specs.Certifier.{State}
use Rattle.sgt_certifier.specs.Judged.{Ends as JudgeEnds, Notes}
use Rattle.sgt_core_machine.specs.declared.machine.Place.{Place}
use Rattle.sgt_core_machine.specs.declared.machine.Part.TheVariants.{Idle, Due, Written}
use Rattle.sgt_core_machine.specs.declared.machine.Running.{Running}
use Rattle.sgt_core_machine.specs.declared.machine.Open.{Open}
use Rattle.sgt_core_machine.specs.declared.machine.Phase.{Phase}
use Rattle.sgt_core_machine.specs.declared.machine.Phase.TheVariants as phase
use Rattle.sgt_step.specs.OneSite.{ended_by}
use Rattle.sgt_step.specs.declared.one_site.Ending.{Ending}
use Rattle.sgt_step.specs.declared.one_site.Ending.TheVariants.{Committed, Refused, Withdrawn}
use Rattle.sgt_core_machine.specs.Machine.{Parts, AwaitsInstall}

-- what was decided of the open step's transaction
abbrev pub verdict_in : Phase → Option Ending
verdict_in (phase.Gathering edges) = None
verdict_in phase.Committed = Some Committed
verdict_in phase.Refused = Some Refused

abbrev pub verdict_of : Option Open → Option Ending
verdict_of None = None
verdict_of (Some o) = verdict_in o.phase

-- the site has the pledge of the transaction at this place of the table
pub record IsPledgedAt (places : List Place) (table : List (Option Running)) (site slot tx : ℕ) : Type 0 where
  pub place : Place
  pub running : Running
  pub there : slice_get places site ≡ Some place
  pub runs : slice_get table slot ≡ Some (Some running)
  pub pledge : IsPledgedFor place.site tx running.draft.touched

-- its block is written there, and nothing else changes
pub record WritesAt (verdict : Ending) (old new : List Place) (table : List (Option Running))
    (site slot tx : ℕ) : Type 0 where
  pub place : Place
  pub running : Running
  pub there : slice_get old site ≡ Some place
  pub runs : slice_get table slot ≡ Some (Some running)
  pub is : new ≡ slice_set old site
      (record { site = ended_by verdict tx running.handle running.draft.touched place.site; part = Written })

-- the judge takes the install of the transaction
pub record AwaitsAt (certifier : State) (site tx : ℕ) : Type 0 where
  pub installing : IsInstalling certifier tx
  pub awaits : AwaitsInstall certifier tx site

-- a block is due at another site
pub record IsAnotherDue (places : List Place) (site : ℕ) : Type 0 where
  pub other : ℕ
  pub apart : other ≢ site
  pub place : Place
  pub there : slice_get places other ≡ Some place
  pub due : place.part ≡ Due

-- it has noted the install, if there is one
abbrev pub IsNotedBy : Ending → State → State → ℕ → ℕ → Type 0
IsNotedBy Committed old new site tx = Notes old tx site new
IsNotedBy Refused old new site tx = new ≡ old
IsNotedBy Withdrawn old new site tx = new ≡ old

-- the block is written, and the install noted
pub record Writes (verdict : Ending) (old new : Parts) (site slot tx : ℕ) : Type 0 where
  pub block : WritesAt verdict old.places new.places old.table site slot tx
  pub noted : IsNotedBy verdict old.certifier new.certifier site tx
  pub is : new ≡ record old { places = new.places; certifier = new.certifier }

-- the site has no part of a step any more
abbrev pub IsAtRest : Place → Place → Type 0
IsAtRest old new = new ≡ record old { part = Idle }

pub record AreAtRest (old new : List Place) : Type 0 where
  pub long : length new ≡ length old
  pub each : (k : ℕ) (p q : Place) → slice_get old k ≡ Some p → slice_get new k ≡ Some q
      → IsAtRest p q

-- the step has ended, and its transaction with it
pub record Ends (old new : Parts) (slot tx : ℕ) : Type 0 where
  pub ends : JudgeEnds old.certifier tx new.certifier
  pub places : AreAtRest old.places new.places
  pub is : new ≡ record old {
    places = new.places;
    certifier = new.certifier;
    table = slice_set old.table slot None;
    step = None;
  }
