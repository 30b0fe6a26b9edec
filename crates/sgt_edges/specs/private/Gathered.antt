-- The edges of one touched item.
use Rattle.std.specs.Prelude.{◌≡◌, ◌≢◌, ◌⊎◌, ◌↔◌, ◌<◌, ◌≤◌, ℕ, suc, true, false, List, Some, AllPairs, Contains, length, slice_get}
use Rattle.sgt_names.specs.Name.{Name}
use Rattle.sgt_names.specs.declared.draft.Seen.{Seen}
use Rattle.sgt_names.specs.declared.draft.Touch.{Touch}
use Rattle.sgt_names.specs.declared.entry.Change.{Change}
use Rattle.sgt_names.specs.declared.entry.Change.TheVariants.{Put, Add}
use Rattle.sgt_names.specs.declared.entry.Kind.{Kind}
use Rattle.sgt_names.specs.declared.entry.Kind.TheVariants.{Wr, Rw, Ww}
use Rattle.sgt_arena.specs.declared.handle.Handle.{Handle}
use Rattle.sgt_site.specs.State.{SiteState, IsSite, version_at, writers_of}
use Rattle.sgt_site.specs.declared.cell.Reader.{Reader}
use Rattle.sgt_site.specs.declared.cell.Writer.{Writer}
use Rattle.sgt_edges.specs.Edges.{HasReader, AreApart}
use Rattle.sgt_edges.specs.Neighbours.{IsUnread, IsInFront, IsBehind, IsLastWrite, IsLastReader, IsNeighbour}
use Rattle.sgt_edges.specs.declared.edge.Edge.{Edge}

-- the item is at the site, and was read at a version that exceeds the site's
abbrev pub IsTooNew : SiteState → Touch → Type 0
IsTooNew s t = (t.site ≡ s.number)
    × ((seen : Seen) × (t.seen ≡ Some seen) × (version_at s.entries t.item < seen.version))

-- the edge is one to or from a neighbour
abbrev pub IsNear : SiteState → List Touch → Handle → Edge → Type 0
IsNear s touched me e = (e.label.site ≡ s.number) × (e.from ≢ e.to)
    × IsNeighbour s touched me e.label.item e.from e.to e.label.kind

-- the edge between two handles on the touched item, if they differ
abbrev pub IsBetween : Touch → Kind → Handle → Handle → Edge → Type 0
IsBetween t kind from to e =
    (from ≢ to) × (e
    ≡ record {
      from = from;
      to = to;
      label = record { site = t.site; item = t.item; kind = kind };
    })

-- the edges that are so were added, and no others
abbrev pub AddsAll : (Edge → Type 0) → List Edge → List Edge → Type 0
AddsAll P old new = (e : Edge) → Contains new e ↔ (Contains old e ⊎ P e)

-- if no two were the same and none of them was there, no two are the same
abbrev pub AddsOnce : (Edge → Type 0) → List Edge → List Edge → Type 0
AddsOnce P old new = AreApart old → ((e : Edge) → Contains old e → P e → ⊥) → AreApart new

-- no two of the writers, or of the readers, have the same handle
abbrev pub WritersApart : List Writer → Type 0
WritersApart ws = AllPairs (λ a b. a.handle ≢ b.handle) ws

abbrev pub ReadersApart : List Reader → Type 0
ReadersApart rs = AllPairs (λ a b. a.handle ≢ b.handle) rs

-- those to me from a writer, from me to a writer, to me from a reader
abbrev pub FromWriter : Touch → Kind → Handle → Writer → Edge → Type 0
FromWriter t kind me w e = IsBetween t kind w.handle me e

abbrev pub ToWriter : Touch → Handle → Writer → Edge → Type 0
ToWriter t me w e = IsBetween t Rw me w.handle e

abbrev pub FromReader : Touch → Handle → Reader → Edge → Type 0
FromReader t me r e = IsBetween t Rw r.handle me e

-- these are the writers of the item, one for each version
abbrev pub AreWriters : SiteState → Name → List Writer → Type 0
AreWriters s x writers = (writers ≡ writers_of s.installed s.entries x)
    × (length writers ≡ version_at s.entries x)

-- these are the writers of the item, and these its committed readers
pub record AreAccesses (s : SiteState) (x : Name) (writers : List Writer) (readers : List Reader) : Type 0 where
  pub site : IsSite s
  pub wrote : AreWriters s x writers
  pub read : (r : Reader) → Contains readers r ↔ HasReader s x r

-- the readers stand by rising version, and none of them read a version that these writers didn't make
pub record AreOrdered (writers : List Writer) (readers : List Reader) : Type 0 where
  pub by_version : AllPairs (λ a b. a.version ≤ b.version) readers
  pub reached : (r : Reader) → Contains readers r → r.version ≤ length writers

-- so many of the writers, those at the front, are increments, and the next one writes, if there is
-- one
pub record IsRunLength (ws : List Writer) (n : ℕ) : Type 0 where
  pub within : n ≤ length ws
  pub run : (k : ℕ) (w : Writer) → k < n → slice_get ws k ≡ Some w → w.increment ≡ true
  pub write : (w : Writer) → slice_get ws n ≡ Some w → w.increment ≡ false

-- a writer that a write has its edge from: one directly in front of it, but no increment where the
-- present version was read
abbrev pub IsBeforeWrite : SiteState → Name → ℕ → Writer → Type 0
IsBeforeWrite s x k w =
    IsInFront s x (version_at s.entries x) k w
    × ((w.increment ≡ false) ⊎ IsUnread s x (version_at s.entries x) (suc (version_at s.entries x)))

-- the writers that a change has its edges from: for a write those in front of it, for an increment
-- the last write
abbrev pub ChangesBefore : SiteState → Name → Change → Writer → Type 0
ChangesBefore s x (Put v) w = (k : ℕ) × IsBeforeWrite s x k w
ChangesBefore s x (Add v) w = (k : ℕ) × IsLastWrite s x k w

-- and the readers: for a write those of the present version, for an increment the last ones since
-- the last write
abbrev pub ReadsBefore : SiteState → Name → Change → Reader → Type 0
ReadsBefore s x (Put v) r = HasReader s x r × (r.version ≡ version_at s.entries x)
ReadsBefore s x (Add v) r = IsLastReader s x r

-- the edges of a touched item's read: from the writers in front of its version, and to those behind
-- it
pub record IsOfRead (s : SiteState) (t : Touch) (me : Handle) (e : Edge) : Type 0 where
  pub seen : Seen
  pub keeps : t.seen ≡ Some seen
  pub which : ((w : Writer) × ((k : ℕ) × IsInFront s t.item seen.version k w)
      × FromWriter t Wr me w e)
      ⊎ ((w : Writer) × ((k : ℕ) × IsBehind s t.item seen.version k w) × ToWriter t me w e)

-- the edges of its change: from those writers and from those readers
pub record IsOfChange (s : SiteState) (t : Touch) (me : Handle) (e : Edge) : Type 0 where
  pub change : Change
  pub asks : t.change ≡ Some change
  pub which : ((w : Writer) × ChangesBefore s t.item change w × FromWriter t Ww me w e)
      ⊎ ((r : Reader) × ReadsBefore s t.item change r × FromReader t me r e)
