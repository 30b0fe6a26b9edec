-- The machine that serves the events, and the states of the model that it stands for.
use Rattle.std.specs.Prelude.{◌≡◌, ◌≢◌, ◌⊎◌, ◌<◌, ◌≤◌, ◌+◌, ℕ, suc, true, List, [], ◌∷◌, ◌++◌, map, Contains, All, Option, Some, None, slice_get, slice_set, length}
use Rattle.sgt_names.specs.Draft.{AreRising, IsUsed, Touches, at_site, kept_in, writing_in, seen_at, change_at, ChangesOnly}
use Rattle.sgt_names.specs.Name.{Name}
use Rattle.sgt_names.specs.Log.{value_at}
use Rattle.sgt_names.specs.declared.draft.Touch.{Touch}
use Rattle.sgt_names.specs.declared.draft.Seen.{Seen}
use Rattle.sgt_names.specs.declared.entry.Entry.TheVariants as entry
use Rattle.sgt_names.specs.declared.entry.Change.{Change}
use Rattle.sgt_names.specs.declared.entry.Holding.{Holding}
use Rattle.sgt_site.specs.State.{AreItems, KeepsReads, opened, version_at, commit_block, refuse_block}
use Rattle.sgt_site.specs.declared.fault.SiteFault.{SiteFault}
use Rattle.sgt_site.specs.declared.fault.SiteFault.TheVariants as site_fault
use Rattle.sgt_site.specs.declared.cell.Install.{Install}
use Rattle.sgt_order.specs.Graph.{Reaches}
use Rattle.sgt_edges.specs.Edges.{HaveOwnHandles, AreApart}
use Rattle.sgt_edges.specs.declared.edge.Edge.{Edge}
use Rattle.sgt_certifier.specs.Certifier.{State, Arc, Joins, serial}
use Rattle.sgt_certifier.specs.Certifier.{Install as Noted}
use Rattle.sgt_certifier.specs.History.{arcs_of, Fits, IsNoted}
use Rattle.sgt_notation.specs.declared.event.Event.{Event}
use Rattle.sgt_notation.specs.declared.event.Event.TheVariants as event
use Rattle.sgt_core_model.specs.declared.reply.Reply.{Reply}
use Rattle.sgt_core_model.specs.declared.reply.CoreFault.{CoreFault}
use Rattle.sgt_core_model.specs.declared.reply.CoreFault.TheVariants as core_fault
use Rattle.sgt_certifier.specs.declared.call.CertifierFault.{CertifierFault}
use Rattle.sgt_certifier.specs.declared.call.CertifierFault.TheVariants as certifier_fault
use Rattle.sgt_core_machine.specs.declared.machine.Machine.{Machine}
use Rattle.sgt_core_machine.specs.declared.machine.Place.{Place}
use Rattle.sgt_core_machine.specs.declared.machine.Part.{Part}
use Rattle.sgt_core_machine.specs.declared.machine.Part.TheVariants.{Idle, Due, Written}
use Rattle.sgt_core_machine.specs.declared.machine.Running.{Running}
use Rattle.sgt_core_machine.specs.declared.machine.Open.{Open}
use Rattle.sgt_core_machine.specs.declared.machine.Phase.{Phase}
use Rattle.sgt_core_machine.specs.declared.machine.Phase.TheVariants.{Gathering, Committed, Refused}
use Rattle.sgt_core_model.specs.Core.{CoreState, fresh, IsEdgeOf}
use Rattle.sgt_core_model.specs.Runs.{AreSites}
use Rattle.sgt_core_model.specs.Step.{gathered_in, IsRefused, Run}

-- the parts of the machine: its sites, its certifier, the transactions of the window, and the open
-- step
pub record Parts : Type 0 where
  pub places : List Place
  pub certifier : State
  pub begun : ℕ
  pub before : ℕ
  pub table : List (Option Running)
  pub step : Option Open

abbrev pub parts_of : Machine → Parts
parts_of m = record {
  places = m.places.items;
  certifier = m.certifier;
  begun = m.begun;
  before = m.before;
  table = m.running.items;
  step = m.step;
}

-- some run leads to the state
abbrev pub IsReached : CoreState → Type 0
IsReached c = (items : List (List Holding))
    × ((events : List Event) × ((replies : List Reply) × Run (fresh items) events replies c))

-- the judge has noted the installs of the open step, and each install is of a committed transaction
pub record HasNoted (s t : State) : Type 0 where
  pub open_step : (tx : ℕ) → s.step ≡ Some tx → (site : ℕ) → IsNoted t tx site → IsNoted s tx site
  pub committed : (install : Noted) → Contains t.installs install → Contains (serial t) install.tx

-- the judge that was handed fewer edges, over which the others lead, and that knows the installs of
-- the open step alone, without their items
pub record Carries (s t : State) : Type 0 where
  pub same : t ≡ record s { arcs = t.arcs; installs = t.installs }
  pub noted : HasNoted s t
  pub fewer : (arc : Arc) → Contains s.arcs arc → Contains t.arcs arc
  pub lead : (a b : ℕ) → Joins t.arcs a b → Reaches (Joins s.arcs) a b

-- the transaction at this place of the window's table is active: its handle, and its draft
pub record IsRunning (c : CoreState) (before place : ℕ) (r : Running) : Type 0 where
  pub active : Contains c.certifier.active (suc (before + place))
  pub handle : r.handle ≡ record { index = place; generation = c.certifier.generation }
  pub rising : AreRising r.draft.touched
  pub used : All IsUsed r.draft.touched
  -- its changes, and its reads, each with value and version
  pub changes : (s : ℕ)
      → c.changes (suc (before + place)) s ≡ writing_in (at_site s r.draft.touched)
  pub reads : (s : ℕ)
      → KeepsReads (c.entries s) (suc (before + place)) (kept_in (at_site s r.draft.touched))

-- what stands at a place of the table
abbrev pub RunsAt : CoreState → ℕ → ℕ → Option Running → Type 0
RunsAt c before place None = Contains c.certifier.active (suc (before + place)) → ⊥
RunsAt c before place (Some r) = IsRunning c before place r

-- the handle of a committed transaction: of this window with its place, or of an older one
abbrev pub IsHandleOf : State → Install → Type 0
IsHandleOf s i =
    ((i.handle.generation ≡ s.generation) × (i.tx ≡ suc (s.before + i.handle.index))
    × Contains s.order i.tx)
    ⊎ ((i.handle.generation < s.generation) × (i.tx ≤ s.before))

-- no install of the transaction is noted at the site
abbrev pub AwaitsInstall : State → ℕ → ℕ → Type 0
AwaitsInstall certifier tx s = IsNoted certifier tx s → ⊥

-- what is due of the open step at a site where it was gathered, with this draft
abbrev pub IsDueBy : Parts → CoreState → ℕ → List Touch → Phase → ℕ → Type 0
IsDueBy m c tx touched (Gathering edges) s = c.due s ≡ []
IsDueBy m c tx touched Committed s = (c.due s ≡ commit_block tx (c.changes tx s))
    × AwaitsInstall m.certifier tx s
IsDueBy m c tx touched Refused s = c.due s ≡ refuse_block tx (c.changes tx s)

-- the pledge of the open step's transaction stands at the site, and its block is due by it
pub record IsDueAt (m : Parts) (c : CoreState) (s : ℕ) (p : Place) (o : Open) : Type 0 where
  pub open_step : m.step ≡ Some o
  pub place : ℕ
  pub running : Running
  pub there : slice_get m.table place ≡ Some (Some running)
  pub tx : o.tx ≡ suc (m.before + place)
  pub gathered : Contains (gathered_in c.step) s
  pub touched : Touches running.draft.touched s
  pub pledge : p.site.pledge ≡ Some (record { tx = o.tx; part = at_site s running.draft.touched })
  pub due : IsDueBy m c o.tx running.draft.touched o.phase s

-- the block of the open step's transaction is written at the site, and the step is still open
-- elsewhere
pub record IsWrittenAt (m : Parts) (c : CoreState) (s : ℕ) (p : Place) : Type 0 where
  pub place : ℕ
  pub running : Running
  pub there : slice_get m.table place ≡ Some (Some running)
  pub decided : c.certifier.step ≡ Some (suc (m.before + place))
  pub gathered : Contains (gathered_in c.step) s
  pub touched : Touches running.draft.touched s
  pub pledge : p.site.pledge ≡ None
  pub due : c.due s ≡ []

-- the open step at a site: nothing, or gathered with its block due, or its block is written
abbrev pub IsPart : Parts → CoreState → ℕ → Place → Part → Type 0
IsPart m c s p Idle = (p.site.pledge ≡ None) × (c.due s ≡ [])
    × (Contains (gathered_in c.step) s → ⊥)
IsPart m c s p Due = (o : Open) × IsDueAt m c s p o
IsPart m c s p Written = IsWrittenAt m c s p

-- a site with its part of the open step
pub record IsPlace (m : Parts) (c : CoreState) (s : ℕ) (p : Place) : Type 0 where
  pub number : p.site.number ≡ s
  pub entries : c.entries s ≡ p.site.entries
  pub handles : (i : Install) → Contains p.site.installed i → IsHandleOf c.certifier i
  pub apart : HaveOwnHandles p.site
  pub part : IsPart m c s p p.part

-- the edges that were gathered of the transaction under the handle: each is one of its own at a
-- gathered site, no two are the same, and those that weren't given are walks
pub record AreGathered (s : State) (c : CoreState) (tx : ℕ) (edges : List Edge) : Type 0 where
  pub place : ℕ
  pub window : tx ≡ suc (s.before + place)
  pub fit : (e : Edge) → Contains edges e
      → Fits s (record { index = place; generation = s.generation }) e
  pub forward : (e : Edge) → Contains edges e
      → e.from ≡ record { index = place; generation = s.generation }
      → e.to.generation ≡ s.generation
  pub here : (e : Edge) → Contains edges e → Contains (gathered_in c.step) e.label.site
  pub once : AreApart edges
  pub own : (arc : Arc) → Contains (arcs_of s edges) arc → IsEdgeOf c tx arc
  pub lead : (arc : Arc) → IsEdgeOf c tx arc → Contains (gathered_in c.step) arc.label.site
      → Reaches (λ a b. Joins s.arcs a b ⊎ Joins (arcs_of s edges) a b) arc.from arc.to

-- how far the open step has come
abbrev pub IsPhase : Parts → CoreState → Open → Phase → Type 0
IsPhase m c o (Gathering edges) = (c.certifier.step ≡ None)
    × AreGathered m.certifier c o.tx edges
IsPhase m c o Committed = (c.certifier.step ≡ Some o.tx) × Contains c.certifier.order o.tx
IsPhase m c o Refused = (c.certifier.step ≡ Some o.tx) × (Contains c.certifier.order o.tx → ⊥)

abbrev pub IsStep : Parts → CoreState → Option Open → Type 0
IsStep m c None = (c.step ≡ None) × (c.certifier.step ≡ None)
IsStep m c (Some o) = (gathered : List ℕ)
    × (c.step ≡ Some (record { tx = o.tx; gathered = gathered })) × IsPhase m c o o.phase

-- the machine stands for this state of the model. The state may have edges that the machine's
-- certifier was not handed
pub record StandsFor (m : Parts) (c : CoreState) : Type 0 where
  pub reached : IsReached c
  pub sites : AreSites c.items
  pub items : c.items ≡ map (λ p. p.site.items) m.places
  pub certifier : Carries m.certifier c.certifier
  -- who was begun in this window, by its place there
  pub before : c.certifier.before ≡ m.before
  pub begun : c.certifier.begun ≡ m.begun
  pub window : m.begun ≡ m.before + length m.table
  pub unborn : (tx s : ℕ) → m.begun < tx → c.changes tx s ≡ []
  pub running : (k : ℕ) (slot : Option Running) → slice_get m.table k ≡ Some slot
      → RunsAt c m.before k slot
  pub places : (s : ℕ) (p : Place) → slice_get m.places s ≡ Some p → IsPlace m c s p
  pub step : IsStep m c m.step

-- it stands for some state
abbrev pub Stands : Parts → Type 0
Stands m = (c : CoreState) × StandsFor m c

-- from each state that the old machine stands for, it goes on to one that the new machine stands
-- for
abbrev pub GoesOn : (CoreState → CoreState → Type 0) → Parts → Parts → Type 0
GoesOn P old new = (c : CoreState) → StandsFor old c → (d : CoreState) × P c d × StandsFor new d

-- the transaction is active, at this place of the table
abbrev pub IsSlotOf : Parts → ℕ → ℕ → Type 0
IsSlotOf m tx slot = (tx ≡ suc (m.before + slot))
    × ((r : Running) × (slice_get m.table slot ≡ Some (Some r)))

-- the certifier may tell this of a window that isn't closed, while no step is open
abbrev pub IsOfClose : CertifierFault → Type 0
IsOfClose (certifier_fault.ActiveLeft n) = Unit {0}
IsOfClose certifier_fault.GenerationsSpent = Unit {0}
IsOfClose certifier_fault.Memory = Unit {0}
IsOfClose _ = ⊥

-- how the core tells it
abbrev pub close_fault : CertifierFault → CoreFault
close_fault (certifier_fault.ActiveLeft n) = core_fault.ActiveLeft
close_fault certifier_fault.GenerationsSpent = core_fault.GenerationsSpent
close_fault _ = core_fault.Memory

-- why no core is made of these items, one site's after another's
abbrev pub RefusesSites : List (List Holding) → SiteFault → Type 0
RefusesSites sites site_fault.BadItems = All AreItems sites → ⊥
RefusesSites sites site_fault.Memory = All AreItems sites
RefusesSites sites _ = ⊥

-- why there is no bundle
abbrev pub RefusesBundle : CoreState → CoreFault → Type 0
RefusesBundle c core_fault.ActiveLeft = c.certifier.active ≢ []
RefusesBundle c core_fault.Memory = c.certifier.active ≡ []
RefusesBundle c _ = ⊥

-- the reads and changes of an item are refused
abbrev pub RefusesItem : CoreState → ℕ → ℕ → Name → CoreFault → Type 0
RefusesItem c tx s x f =
    IsRefused c (event.Read tx s x) f × ((v : ℕ) → IsRefused c (event.Put tx s x v) f)
    × ((v : ℕ) → IsRefused c (event.Add tx s x v) f)

-- the transaction at a place of the table has another draft, and nothing else there changes
pub record Redrafts (old new : List (Option Running)) (slot : ℕ) (P : List Touch → List Touch → Type 0) : Type 0 where
  pub before : Running
  pub after : Running
  pub was : slice_get old slot ≡ Some (Some before)
  pub is : new ≡ slice_set old slot (Some after)
  pub handle : after.handle ≡ before.handle
  pub rising : AreRising after.draft.touched
  pub used : All IsUsed after.draft.touched
  pub draft : P before.draft.touched after.draft.touched

-- the private change of an item, as the draft has it afterwards
abbrev pub ChangesTo : ℕ → Name → (Option Change → Change) → List Touch → List Touch → Type 0
ChangesTo site item change old new = ChangesOnly old new (record {
  site = site;
  item = item;
  seen = seen_at old (site, item);
  change = Some (change (change_at old (site, item)));
})

-- places of sites with these items, to which nothing has happened
pub record AreOpened (sites : List (List Holding)) (places : List Place) : Type 0 where
  pub long : length places ≡ length sites
  pub each : (k : ℕ) (p : Place) → slice_get places k ≡ Some p
      → (items : List Holding) × (slice_get sites k ≡ Some items) × AreItems items
      × (p ≡ record { site = opened k items; part = Idle })

-- the draft at a place of the table has room, and nothing else changes
pub record HasRoomAt (old new : List (Option Running)) (slot : ℕ) : Type 0 where
  pub before : Running
  pub was : slice_get old slot ≡ Some (Some before)
  pub is : new ≡ slice_set old slot
      (Some (record before { draft = record { touched = before.draft.touched; has_room = true } }))

-- the read of an item, as the draft has it afterwards
abbrev pub ReadsTo : ℕ → Name → Seen → List Touch → List Touch → Type 0
ReadsTo site item seen old new =
    ChangesOnly old new
    (record { site = site; item = item; seen = Some seen; change = change_at old (site, item) })

-- the item is read at its site, and the read is logged
pub record ReadsAt (old new : List Place) (tx site : ℕ) (item : Name) (seen : Seen) : Type 0 where
  pub place : Place
  pub was : slice_get old site ≡ Some place
  pub value : value_at place.site.items place.site.entries item ≡ Some seen.value
  pub version : seen.version ≡ version_at place.site.entries item
  pub is : new ≡ slice_set old site (record place {
    site = record place.site { entries = place.site.entries ++ entry.Read tx item seen.value ∷ [] };
  })
