-- The edges of a draft at a site: the conflicts of its reads and changes there with the committed
-- transactions.
use Rattle.std.specs.Prelude.{◌≡◌, ◌≢◌, ℕ, false, ◌<◌, ◌≤◌, ◌⊎◌, List, ◌++◌, map, Some, Any, AllPairs, Contains, slice_get}
use Rattle.sgt_names.specs.Name.{Name}
use Rattle.sgt_names.specs.Log.{Conflicts}
use Rattle.sgt_names.specs.Draft.{at_site, kept_in, writing_in}
use Rattle.sgt_names.specs.declared.draft.Touch.{Touch}
use Rattle.sgt_names.specs.declared.entry.Change.{Change}
use Rattle.sgt_names.specs.declared.entry.Change.TheVariants.{Put, Add}
use Rattle.sgt_names.specs.declared.entry.Entry.{Entry}
use Rattle.sgt_names.specs.declared.entry.Kind.{Kind}
use Rattle.sgt_names.specs.declared.entry.Kind.TheVariants.{Wr, Rw, Ww}
use Rattle.sgt_arena.specs.declared.handle.Handle.{Handle}
use Rattle.sgt_site.specs.declared.cell.Reader.{Reader}
use Rattle.sgt_site.specs.declared.cell.Writer.{Writer}
use Rattle.sgt_site.specs.State.{SiteState, HasEnded, KeepsReads, version_at, handle_of, writers_of, IsReader, change_entry}
use Rattle.sgt_edges.specs.declared.edge.Edge.{Edge}
use Rattle.sgt_edges.specs.declared.fault.EdgeFault.{EdgeFault}
use Rattle.sgt_edges.specs.declared.fault.EdgeFault.TheVariants.{SeenTooNew, Memory}

-- the writer of number k of an item, counted from 0 in the order of the log
abbrev pub IsWriter : SiteState → Name → ℕ → Writer → Type 0
IsWriter s x k w = slice_get (writers_of s.installed s.entries x) k ≡ Some w

-- a committed transaction with its handle read the item
abbrev pub HasReader : SiteState → Name → Reader → Type 0
HasReader s x r = IsReader s.installed s.entries x r

-- the draft keeps a read of the item at this version; it is to change the item so
abbrev pub SawAt : SiteState → List Touch → Name → ℕ → Type 0
SawAt s touched x n = (v : ℕ) × Contains (kept_in (at_site s.number touched)) (x, v, n)

abbrev pub IsToChange : SiteState → List Touch → Name → Change → Type 0
IsToChange s touched x c = Contains (writing_in (at_site s.number touched)) (x, c)

-- a change and a writer in conflict: not two increments
abbrev pub ConflictsWith : Change → Writer → Type 0
ConflictsWith (Put v) w = Unit {0}
ConflictsWith (Add v) w = w.increment ≡ false

-- an operation under one handle precedes and conflicts with one under the other, mine and a
-- committed transaction's, on the item:
-- a write before my read, or my read before a later write; a write before my own; a read before my
-- write.
-- An increment counts as a write, but two increments are in no conflict
pub data Precedes (s : SiteState) (touched : List Touch) (me : Handle) (x : Name) : Handle → Handle → Kind
    → Type 0 where
  wrote_before : (n k : ℕ) (w : Writer) → SawAt s touched x n → k < n → IsWriter s x k w
      → Precedes s touched me x w.handle me Wr
  wrote_after : (n k : ℕ) (w : Writer) → SawAt s touched x n → n ≤ k → IsWriter s x k w
      → Precedes s touched me x me w.handle Rw
  wrote_too : (c : Change) (k : ℕ) (w : Writer) → IsToChange s touched x c → IsWriter s x k w
      → ConflictsWith c w
      → Precedes s touched me x w.handle me Ww
  read_it : (c : Change) (r : Reader) → IsToChange s touched x c → HasReader s x r
      → Precedes s touched me x r.handle me Rw

-- an edge of the draft, from one handle to another
abbrev pub IsEdge : SiteState → List Touch → Handle → Name → Handle → Handle → Kind → Type 0
IsEdge s touched me x from to kind = (from ≢ to) × Precedes s touched me x from to kind

-- an edge between two committed transactions: a conflict of the log between them on the item
pub record IsOldEdge (s : SiteState) (x : Name) (from to : Handle) : Type 0 where
  pub first : ℕ
  pub second : ℕ
  pub from_first : handle_of s.installed first ≡ Some from
  pub to_second : handle_of s.installed second ≡ Some to
  pub kind : Kind
  pub conflict : Conflicts s.entries kind x first second

-- an edge that is given is one of the draft's here
abbrev pub IsGiven : SiteState → List Touch → Handle → Edge → Type 0
IsGiven s touched me e = (e.label.site ≡ s.number)
    × IsEdge s touched me e.label.item e.from e.to e.label.kind

-- a walk of one or more steps, each a given edge or one between committed transactions, on one item
pub data Walks (s : SiteState) (x : Name) (edges : List Edge) : Handle → Handle → Type 0 where
  given : (e : Edge) → Contains edges e → e.label.item ≡ x → Walks s x edges e.from e.to
  old : (g h : Handle) → IsOldEdge s x g h → Walks s x edges g h
  on : (f g h : Handle) → Walks s x edges f g → Walks s x edges g h → Walks s x edges f h

-- the edges stand for all of the draft's here: each one that isn't given is such a walk
abbrev pub StandsForAll : SiteState → List Touch → Handle → List Edge → Type 0
StandsForAll s touched me edges = (x : Name) (f t : Handle) (k : Kind) → IsEdge s touched me x f t k
    → Walks s x edges f t

-- no two committed transactions of the site have the same handle
abbrev pub HaveOwnHandles : SiteState → Type 0
HaveOwnHandles s = (a b : ℕ) (h : Handle) → handle_of s.installed a ≡ Some h
    → handle_of s.installed b ≡ Some h → a ≡ b

-- no two edges are the same
abbrev pub AreApart : List Edge → Type 0
AreApart edges = AllPairs (λ e f. e ≢ f) edges

-- an edge between me and a committed transaction, from its handle to mine or from mine to it, and
-- the two differ
pub record JoinsCommitted (s : SiteState) (me from to : Handle) : Type 0 where
  pub other : ℕ
  pub handle : Handle
  pub given : handle_of s.installed other ≡ Some handle
  pub ends : ((from ≡ handle) × (to ≡ me)) ⊎ ((from ≡ me) × (to ≡ handle))
  pub apart : from ≢ to

-- the log of the site, followed by the transaction's private changes there
abbrev pub followed : SiteState → ℕ → List Touch → List Entry
followed s tx touched =
    s.entries ++ map (λ c. change_entry tx c.0 c.1) (writing_in (at_site s.number touched))

-- the transaction is active here, and the draft's reads are its reads in the log
pub record IsActive (s : SiteState) (tx : ℕ) (touched : List Touch) : Type 0 where
  pub active : HasEnded s.entries tx → ⊥
  pub reads : KeepsReads s.entries tx (kept_in (at_site s.number touched))

-- a conflict between the transaction and a committed one, in the log followed by its private
-- changes, from one handle to another
pub record IsConflict (s : SiteState) (tx : ℕ) (touched : List Touch) (me : Handle)
    (x : Name) (from to : Handle) (kind : Kind) : Type 0 where
  pub other : ℕ
  pub handle : Handle
  pub given : handle_of s.installed other ≡ Some handle
  pub which : ((from ≡ handle) × (to ≡ me) × Conflicts (followed s tx touched) kind x other tx)
      ⊎ ((from ≡ me) × (to ≡ handle) × Conflicts (followed s tx touched) kind x tx other)
  pub apart : from ≢ to

-- a kept read has a version that the site has not had
abbrev pub SeesTooNew : SiteState → List Touch → Type 0
SeesTooNew s touched =
    Any (λ k. version_at s.entries k.0 < k.2) (kept_in (at_site s.number touched))

-- a `gather` that is refused: a version that is too new, or memory where none is
abbrev pub RefusesEdges : SiteState → List Touch → EdgeFault → Type 0
RefusesEdges s touched SeenTooNew = SeesTooNew s touched
RefusesEdges s touched Memory = SeesTooNew s touched → ⊥
