-- Pairs of touches in order that conflict: one, and the nearest other that does.
use Rattle.std.specs.Prelude.{◌≡◌, ◌≢◌, ℕ, ◌+◌, ◌<◌, ◌≤◌, true, List, ◌++◌, Option, None, Some, slice_get, Contains}
use Rattle.sgt_history.specs.declared.history.Kind.TheVariants.{Read, Write}
use Rattle.sgt_history.specs.declared.named.Conflict.{Conflict}
use Rattle.sgt_history.specs.declared.named.Conflict.TheVariants.{WriteWrite, WriteRead, ReadWrite}
use Rattle.sgt_history_faults.specs.declared.touch.Touch.{Touch}
use Rattle.sgt_graph.specs.declared.edge.Edge.{Edge}

-- the touch is a write by a transaction that commits
pub record IsWritten (e : Touch) : Type 0 where
  pub write : e.kind ≡ Write
  pub commits : e.commits ≡ true

-- two touches of one item by two lines: two such writes; one and a read of its version; a read and one
abbrev pub Meets : Conflict → Touch → Touch → Type 0
Meets WriteWrite a b = (a.item ≡ b.item) × (a.line ≢ b.line) × IsWritten a × IsWritten b
Meets WriteRead a b = (a.item ≡ b.item) × (a.line ≢ b.line) × IsWritten a × (b.kind ≡ Read) × (a.version ≡ b.version)
Meets ReadWrite a b = (a.item ≡ b.item) × (a.line ≢ b.line) × (a.kind ≡ Read) × IsWritten b

-- no such write stands between the places
abbrev pub NoneBetween : List Touch → ℕ → ℕ → Type 0
NoneBetween touches i k = (m : ℕ) (e : Touch) → i < m → m < k → slice_get touches m ≡ Some e → IsWritten e → ⊥

-- the touches at these places conflict in this way, with none between
pub record IsPair (touches : List Touch) (kind : Conflict) (i k : ℕ) : Type 0 where
  pub a : Touch
  pub b : Touch
  pub first : slice_get touches i ≡ Some a
  pub second : slice_get touches k ≡ Some b
  pub before : i < k
  pub none : NoneBetween touches i k
  pub meets : Meets kind a b

-- the last such write before the place, if there is one
abbrev pub IsLast : List Touch → ℕ → Option ℕ → Type 0
IsLast touches n None = (m : ℕ) (e : Touch) → m < n → slice_get touches m ≡ Some e → IsWritten e → ⊥
IsLast touches n (Some p) = (p < n) × (e : Touch) × (slice_get touches p ≡ Some e) × IsWritten e
    × NoneBetween touches p n

-- the first such write from the place on, if there is one
abbrev pub IsFirst : List Touch → ℕ → Option ℕ → Type 0
IsFirst touches n None = (m : ℕ) (e : Touch) → n ≤ m → slice_get touches m ≡ Some e → IsWritten e → ⊥
IsFirst touches n (Some p) = (n ≤ p) × (e : Touch) × (slice_get touches p ≡ Some e) × IsWritten e
    × ((m : ℕ) (u : Touch) → n ≤ m → m < p → slice_get touches m ≡ Some u → IsWritten u → ⊥)

-- behind the pairs before stand pairs of this kind alone, and all of those whose places are so
pub record AddsPairs (touches : List Touch) (kind : Conflict) (Are : ℕ → ℕ
    → Type 0) (old new : List Edge) : Type 0 where
  pub more : List Edge
  pub is : new ≡ old ++ more
  pub sound : (p : Edge) → Contains more p → IsPair touches kind p.from p.to
  pub all : (i k : ℕ) → Are i k → IsPair touches kind i k → Contains more (record { from = i; to = k })

-- ... whose second is before the place; whose first isn't; whatever
abbrev pub AddsUpTo : List Touch → Conflict → ℕ → List Edge → List Edge → Type 0
AddsUpTo touches kind n = AddsPairs touches kind (λ i k. k < n)

abbrev pub AddsFrom : List Touch → Conflict → ℕ → List Edge → List Edge → Type 0
AddsFrom touches kind n = AddsPairs touches kind (λ i k. n ≤ i)

abbrev pub AddsAll : List Touch → Conflict → List Edge → List Edge → Type 0
AddsAll touches kind = AddsPairs touches kind (λ i k. Unit {0})
