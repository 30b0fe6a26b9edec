-- Edges to neighbours alone. A run is the increments behind one write, up to the next one.
use Rattle.std.specs.Prelude.{◌≡◌, ◌≢◌, ◌⊎◌, ℕ, suc, true, false, ◌<◌, ◌≤◌, List, Contains}
use Rattle.sgt_names.specs.Name.{Name}
use Rattle.sgt_names.specs.declared.draft.Touch.{Touch}
use Rattle.sgt_names.specs.declared.entry.Change.TheVariants.{Put, Add}
use Rattle.sgt_names.specs.declared.entry.Kind.{Kind}
use Rattle.sgt_names.specs.declared.entry.Kind.TheVariants.{Wr, Rw, Ww}
use Rattle.sgt_arena.specs.declared.handle.Handle.{Handle}
use Rattle.sgt_site.specs.declared.cell.Reader.{Reader}
use Rattle.sgt_site.specs.declared.cell.Writer.{Writer}
use Rattle.sgt_site.specs.State.{SiteState, version_at}
use Rattle.sgt_edges.specs.declared.edge.Edge.{Edge}
use Rattle.sgt_edges.specs.Edges.{IsWriter, HasReader, SawAt, IsToChange}

-- no write of the item from version n on, up to version m: all that change it there are increments
abbrev pub AddsOnly : SiteState → Name → ℕ → ℕ → Type 0
AddsOnly s x n m = (j : ℕ) (w : Writer) → n ≤ j → j < m → IsWriter s x j w → w.increment ≡ true

-- no committed transaction read the item at a version from n on and below m
abbrev pub IsUnread : SiteState → Name → ℕ → ℕ → Type 0
IsUnread s x n m = (r : Reader) → HasReader s x r → n ≤ r.version → r.version < m → ⊥

-- a writer directly in front of version n: an increment of the run there, or the write at its
-- beginning where the run is empty.
-- No version between the two was read
pub record IsInFront (s : SiteState) (x : Name) (n k : ℕ) (w : Writer) : Type 0 where
  pub writer : IsWriter s x k w
  pub before : k < n
  pub run : AddsOnly s x (suc k) n
  pub which : (w.increment ≡ true) ⊎ (suc k ≡ n)
  pub unread : IsUnread s x (suc k) n

-- a writer from version n on, up to and with the next write. No version between the two was read
pub record IsBehind (s : SiteState) (x : Name) (n k : ℕ) (w : Writer) : Type 0 where
  pub writer : IsWriter s x k w
  pub after : n ≤ k
  pub run : AddsOnly s x n k
  pub unread : IsUnread s x (suc n) (suc k)

-- the last write of the item
pub record IsLastWrite (s : SiteState) (x : Name) (k : ℕ) (w : Writer) : Type 0 where
  pub writer : IsWriter s x k w
  pub write : w.increment ≡ false
  pub run : AddsOnly s x (suc k) (version_at s.entries x)

-- a reader of the last version that was read, if the item was only added to since then
pub record IsLastReader (s : SiteState) (x : Name) (r : Reader) : Type 0 where
  pub reader : HasReader s x r
  pub run : AddsOnly s x r.version (version_at s.entries x)
  pub unread : IsUnread s x (suc r.version) (suc (version_at s.entries x))

-- what precedes or follows mine as a neighbour: for a read the run in front of its version, and
-- what comes up to the next write, each
-- as far as no committed read stands between; for a write the readers of the present version, and
-- the present run as far as nobody
-- has read it since; for an increment the last write and the last readers since then
pub data IsNeighbour (s : SiteState) (touched : List Touch) (me : Handle) (x : Name) : Handle → Handle → Kind
    → Type 0 where
  in_front : (n k : ℕ) (w : Writer) → SawAt s touched x n → IsInFront s x n k w
      → IsNeighbour s touched me x w.handle me Wr
  behind : (n k : ℕ) (w : Writer) → SawAt s touched x n → IsBehind s x n k w
      → IsNeighbour s touched me x me w.handle Rw
  put_last : (v k : ℕ) (w : Writer) → IsToChange s touched x (Put v)
      → IsInFront s x (version_at s.entries x) k w
      → (w.increment ≡ false) ⊎ IsUnread s x (version_at s.entries x) (suc (version_at s.entries x))
      → IsNeighbour s touched me x w.handle me Ww
  add_last : (v k : ℕ) (w : Writer) → IsToChange s touched x (Add v) → IsLastWrite s x k w
      → IsNeighbour s touched me x w.handle me Ww
  put_read : (v : ℕ) (r : Reader) → IsToChange s touched x (Put v) → HasReader s x r
      → r.version ≡ version_at s.entries x
      → IsNeighbour s touched me x r.handle me Rw
  add_read : (v : ℕ) (r : Reader) → IsToChange s touched x (Add v) → IsLastReader s x r
      → IsNeighbour s touched me x r.handle me Rw

-- each neighbour under another handle is among the edges
abbrev pub HaveNeighbours : SiteState → List Touch → Handle → List Edge → Type 0
HaveNeighbours s touched me edges = (x : Name) (f t : Handle) (k : Kind) → f ≢ t
    → IsNeighbour s touched me x f t k
    → Contains edges
    (record { from = f; to = t; label = record { site = s.number; item = x; kind = k } })
