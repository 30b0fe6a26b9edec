-- A transaction is gathered at a site: what changes in the sites, and in the open step.
use Rattle.std.specs.Prelude.{◌≡◌, ℕ, List, ◌++◌, All, Option, Some, None, slice_get, slice_set, length}
use Rattle.sgt_names.specs.Draft.{at_site}
use Rattle.sgt_names.specs.declared.draft.Touch.{Touch}
use Rattle.sgt_site.specs.State.{SiteState, IsSite, IsPledged}
use Rattle.sgt_site.specs.Refused.{MayPledge}
use Rattle.sgt_edges.specs.Edges.{IsGiven, StandsForAll, HaveOwnHandles, AreApart}
use Rattle.sgt_edges.specs.declared.edge.Edge.{Edge}
use Rattle.sgt_step.specs.OneSite.{AreEdgesOf}
use Rattle.sgt_core_machine.specs.Machine.{Parts}
use Rattle.sgt_core_machine.specs.declared.machine.Place.{Place}
use Rattle.sgt_core_machine.specs.declared.machine.Part.TheVariants.{Idle, Due}
use Rattle.sgt_core_machine.specs.declared.machine.Running.{Running}
use Rattle.sgt_core_machine.specs.declared.machine.Open.{Open}
use Rattle.sgt_core_machine.specs.declared.machine.Phase.{Phase}
use Rattle.sgt_core_machine.specs.declared.machine.Phase.TheVariants.{Gathering}

-- the edges are given of the transaction at this place of the table, and stand for all of its edges
-- at the site; no two are the same
pub record AreGiven (places : List Place) (table : List (Option Running)) (site slot : ℕ) (edges : List Edge) : Type 0
  where
    pub place : Place
    pub running : Running
    pub there : slice_get places site ≡ Some place
    pub runs : slice_get table slot ≡ Some (Some running)
    pub legal : IsSite place.site
    pub given : All (IsGiven place.site running.draft.touched running.handle) edges
    pub stand : StandsForAll place.site running.draft.touched running.handle edges
    pub once : HaveOwnHandles place.site → AreApart edges

-- the transaction is pledged at the site, and its edges there are these. Nothing else changes
pub record GivesAt (old new : List Place) (who : Option Running) (site tx : ℕ) (edges : List Edge) : Type 0 where
  pub place : Place
  pub running : Running
  pub there : slice_get old site ≡ Some place
  pub runs : who ≡ Some running
  pub legal : IsSite place.site
  pub may : MayPledge place.site tx running.draft.touched
  pub pledged : SiteState
  pub pledge : pledged
      ≡ record place.site {
        pledge = Some
            (record { tx = tx; part = at_site place.site.number running.draft.touched });
      }
  pub edges_are : AreEdgesOf pledged running.draft.touched running.handle edges
  pub is : new ≡ slice_set old site (record place { site = pledged })

-- the site refuses no pledge of the transaction at this place of the table
abbrev pub MayPledgeAt : List Place → List (Option Running) → (site slot tx : ℕ) → Type 0
MayPledgeAt places table site slot tx = (p : Place) (r : Running) → slice_get places site ≡ Some p
    → slice_get table slot ≡ Some (Some r)
    → MayPledge p.site tx r.draft.touched

-- the transaction at this place of the table is pledged at the site, and nothing else changes
pub record PledgesAt (old new : List Place) (table : List (Option Running)) (site slot tx : ℕ) : Type 0 where
  pub place : Place
  pub running : Running
  pub there : slice_get old site ≡ Some place
  pub runs : slice_get table slot ≡ Some (Some running)
  pub may : MayPledge place.site tx running.draft.touched
  pub is : new ≡ slice_set old site (record {
    site = record place.site {
      pledge = Some
          (record { tx = tx; part = at_site place.site.number running.draft.touched });
    };
    part = Due;
  })

-- the step with further edges, opened where there was none
abbrev pub phase_with : Phase → List Edge → Phase
phase_with (Gathering edges) more = Gathering (edges ++ more)
phase_with phase more = phase

abbrev pub step_with : Option Open → ℕ → List Edge → Option Open
step_with None tx more = Some (record { tx = tx; phase = Gathering more })
step_with (Some o) tx more = Some (record { tx = o.tx; phase = phase_with o.phase more })

-- the site without the pledge of the transaction, and with no part of a step. A pledge of another
-- stays
pub record IsReleased (tx : ℕ) (old new : Place) : Type 0 where
  pub pledged : IsPledged old.site tx
      → new ≡ record { site = record old.site { pledge = None }; part = Idle }
  pub other : (IsPledged old.site tx → ⊥) → new ≡ record old { part = Idle }

pub record AreReleased (tx : ℕ) (old new : List Place) : Type 0 where
  pub long : length new ≡ length old
  pub each : (k : ℕ) (p q : Place) → slice_get old k ≡ Some p → slice_get new k ≡ Some q
      → IsReleased tx p q

-- the touched item is of a site to which the open step hasn't come
abbrev pub IsMissedAt : List Place → Touch → Type 0
IsMissedAt places u = (p : Place) → slice_get places u.site ≡ Some p → p.part ≡ Idle

-- the transaction at this place of the table is gathered at the site
pub record GathersAt (old new : Parts) (tx slot site : ℕ) : Type 0 where
  pub edges : List Edge
  pub given : AreGiven old.places old.table site slot edges
  pub pledge : PledgesAt old.places new.places old.table site slot tx
  pub is : new ≡ record old { places = new.places; step = step_with old.step tx edges }
