-- The edges on an item, and the conflicts there that they carry.
use Rattle.std.specs.Prelude.{◌≡◌, ◌⊎◌, ◌≤◌, ◌<◌, ℕ, max, true, false, List, Some, Contains, slice_get, Vec}
use Rattle.std.specs.declared.alloc.Global.{Global}
use Rattle.sgt_names.specs.declared.entry.Holding.{Holding}
use Rattle.sgt_order.specs.Graph.{Reaches}
use Rattle.sgt_service_settle.specs.declared.course.Marks.{Marks}
use Rattle.sgt_service_settle.specs.declared.deeds.Deed.{Deed}
use Rattle.sgt_service_settle.specs.declared.deeds.Track.{Track}
use Rattle.sgt_service_settle.specs.declared.link.Link.{Link}
use Rattle.sgt_service_settle.specs.private.Words.{At, IsItemAt}
use Rattle.sgt_service_settle.specs.private.Deeds.{IsBefore, IsSound}

-- at the place of each item stand edges on it at the site, of which P holds
abbrev pub AreItemLinks : (Link → Type 0) → ℕ → List Holding → List (Vec Link Global) → Type 0
AreItemLinks P site items rows = (at n : ℕ) (l : Link) → At rows at n l
    → P l × (l.label.site ≡ site) × IsItemAt items l.label.item at

-- an edge that was handed to a decision of at most this number leads from a to b
abbrev pub IsHanded : List Link → ℕ → ℕ → ℕ → Type 0
IsHanded links last a b = (l : Link) × Contains links l × (l.from ≡ a) × (l.to ≡ b)
    × (l.number ≤ last)

-- they are one transaction, or such edges lead from a to b
abbrev pub GetsTo : List Link → ℕ → ℕ → ℕ → Type 0
GetsTo links last a b = (a ≡ b) ⊎ Reaches (IsHanded links last) a b

-- the first precedes the second in the log and conflicts with it: not two reads, nor two increments
pub record Precedes (d e : Deed) : Type 0 where
  pub reads : d.read ≡ true → e.read ≡ false
  pub increments : d.increment ≡ true → e.increment ≡ false
  pub before : IsBefore d e.version

-- edges carry the conflicts of the deeds, each handed until both were decided
abbrev pub AreDeedsCarried : List Link → List Deed → Type 0
AreDeedsCarried links deeds = (d e : Deed) → Contains deeds d → Contains deeds e → Precedes d e
    → GetsTo links (max d.number e.number) d.tx e.tx

-- so do the edges of each item, at its place
abbrev pub AreTracksCarried : List (Vec Link Global) → List Track → Type 0
AreTracksCarried rows tracks = (k : ℕ) (t : Track) (row : Vec Link Global)
    → slice_get tracks k ≡ Some t → slice_get rows k ≡ Some row
    → AreDeedsCarried row.items t.deeds.items

abbrev pub AreSound : List Track → Type 0
AreSound tracks = (k : ℕ) (t : Track) (d : Deed) → slice_get tracks k ≡ Some t
    → Contains t.deeds.items d → IsSound d

-- ---- marks

-- the marks are below this one
pub record AreUnder (m : Marks) (bound : ℕ) : Type 0 where
  pub from : (a step : ℕ) → slice_get m.from.items a ≡ Some step → step < bound
  pub to : (a step : ℕ) → slice_get m.to.items a ≡ Some step → step < bound

-- what has the step's mark is joined to the deed by an edge handed until its decision
pub record AreNoted (links : List Link) (d : Deed) (m : Marks) : Type 0 where
  pub from : (a : ℕ) → slice_get m.from.items a ≡ Some m.step → IsHanded links d.number a d.tx
  pub to : (b : ℕ) → slice_get m.to.items b ≡ Some m.step → IsHanded links d.number d.tx b

-- the other deed is the transaction's own, or an edge leads from it, or to it
abbrev pub ComesTo : List Link → Deed → Deed → Type 0
ComesTo links d other = (other.tx ≡ d.tx) ⊎ IsHanded links d.number other.tx d.tx

abbrev pub LeadsTo : List Link → Deed → Deed → Type 0
LeadsTo links d other = (other.tx ≡ d.tx) ⊎ IsHanded links d.number d.tx other.tx
