-- The steps of a cycle.
use Rattle.std.specs.Prelude.{◌≡◌, ◌⊎◌, nat_lt, if◌then◌else◌, ℕ, ◌+◌, ◌<◌, ◌≤◌, List, length, map, Option, None, Some, slice_get, get_or, All, Contains}
use Rattle.sgt_history.specs.declared.history.Kind.{Kind}
use Rattle.sgt_history.specs.declared.history.Kind.TheVariants.{Read, Write}
use Rattle.sgt_history.specs.declared.named.Conflict.{Conflict}
use Rattle.sgt_history.specs.declared.named.Conflict.TheVariants.{WriteWrite, WriteRead, ReadWrite}
use Rattle.sgt_history.specs.declared.named.Graph.{Graph}
use Rattle.sgt_history.specs.Transaction.{Transaction}
use Rattle.sgt_history.specs.Conflicts.{HaveConflict, IsAmong}
use Rattle.sgt_history_faults.specs.declared.touch.Touch.{Touch}
use Rattle.sgt_graph.specs.declared.edge.Edge.{Edge}
use Rattle.sgt_history_verdict.specs.declared.step.Step.{Step}

-- ---- of a history

-- the step is a conflict of the graph
pub record IsStep (h : List (Transaction ℕ ℕ)) (g : Graph) (s : Step) : Type 0 where
  pub among : IsAmong g s.kind
  pub conflict : HaveConflict h s.kind s.from s.to s.item s.from_version s.to_version

-- the place behind this one of so many; behind the last one is the first
abbrev pub place_behind : (place count : ℕ) → ℕ
place_behind place count = if nat_lt (place + 1) count then place + 1 else 0

-- each is a conflict of the graph, and leads to where the next one begins, the last to where the first does
pub record AreSteps (h : List (Transaction ℕ ℕ)) (g : Graph) (steps : List Step) : Type 0 where
  pub some : 0 < length steps
  pub each : All (IsStep h g) steps
  pub onward : (place : ℕ) (s t : Step) → slice_get steps place ≡ Some s
      → slice_get steps (place_behind place (length steps)) ≡ Some t → s.to ≡ t.from

-- the lines from which they lead
abbrev pub lines_of : List Step → List ℕ
lines_of steps = map (λ (s : Step). s.from) steps

-- where a kind of conflict stands among the kinds
abbrev pub kind_place : Conflict → ℕ
kind_place WriteWrite = 0
kind_place WriteRead = 1
kind_place ReadWrite = 2

-- where an item stands among the names, behind all where nothing is said of it
abbrev pub rank_at : (ranks : List ℕ) → ℕ → ℕ
rank_at ranks item = get_or ranks item 4294967295

-- of two steps from one line to another the first is told before the second, or is as good: by kind,
-- by where the item stands, by version
abbrev pub IsToldBefore : (ranks : List ℕ) → Step → Step → Type 0
IsToldBefore ranks s t = (kind_place s.kind < kind_place t.kind) ⊎ ((kind_place s.kind ≡ kind_place t.kind)
    × ((rank_at ranks s.item < rank_at ranks t.item) ⊎ ((rank_at ranks s.item ≡ rank_at ranks t.item)
    × (s.from_version ≤ t.from_version))))

-- it leads from the one line to the other
abbrev pub Leads : Step → (a b : ℕ) → Type 0
Leads s a b = (s.from ≡ a) × (s.to ≡ b)

-- each is told before all other conflicts of the graph from its line to the next
abbrev pub AreToldFirst : List (Transaction ℕ ℕ) → Graph → (ranks : List ℕ) → List Step → Type 0
AreToldFirst h g ranks steps =
    All (λ (s : Step). (t : Step) → IsStep h g t → Leads t s.from s.to → IsToldBefore ranks s t) steps

-- ---- of touches

-- the conflict of two touches, by what these are
abbrev pub kind_between : Kind → Kind → Conflict
kind_between Write Write = WriteWrite
kind_between Write Read = WriteRead
kind_between Read other = ReadWrite

abbrev pub step_between : Touch → Touch → Step
step_between a b = record {
  kind = kind_between a.kind b.kind;
  from = a.line;
  to = b.line;
  item = a.item;
  from_version = a.version;
  to_version = b.version;
}

-- it is the step of the pair of touches
pub record IsOf (touches : List Touch) (pair : Edge) (s : Step) : Type 0 where
  pub a : Touch
  pub b : Touch
  pub first : slice_get touches pair.from ≡ Some a
  pub second : slice_get touches pair.to ≡ Some b
  pub is : s ≡ step_between a b

-- it is the step of one of the pairs
abbrev pub IsOfPairs : List Touch → List Edge → Step → Type 0
IsOfPairs touches pairs s = (pair : Edge) × Contains pairs pair × IsOf touches pair s

-- of the steps of the first n pairs that are so it is the one that is told first, if there is one
abbrev pub IsBest : List Touch → List Edge → (ranks : List ℕ) → (Step → Type 0) → ℕ → Option Step → Type 0
IsBest touches pairs ranks Is n None = (k : ℕ) (pair : Edge) (t : Step) → k < n → slice_get pairs k ≡ Some pair
    → IsOf touches pair t → Is t → ⊥
IsBest touches pairs ranks Is n (Some s) = IsOfPairs touches pairs s × Is s × ((k : ℕ) (pair : Edge) (t : Step) → k < n
    → slice_get pairs k ≡ Some pair → IsOf touches pair t → Is t → IsToldBefore ranks s t)

-- a step leads from this line to the one that is noted behind it
abbrev pub IsAlong : (behind : List (Option ℕ)) → ℕ → Step → Type 0
IsAlong behind line s = (s.from ≡ line) × (slice_get behind line ≡ Some (Some s.to))

-- so each line has the best of those from it
abbrev pub AreBest : List Touch → List Edge → (ranks : List ℕ) → (behind : List (Option ℕ)) → ℕ → List (Option Step)
    → Type 0
AreBest touches pairs ranks behind n best = (line : ℕ) (o : Option Step) → slice_get best line ≡ Some o
    → IsBest touches pairs ranks (IsAlong behind line) n o

-- they are steps of pairs, from each of the lines to the next, and from the last to the first, each the one that is
-- told first
pub record AreAlong (touches : List Touch) (pairs : List Edge) (ranks lines : List ℕ) (steps : List Step) : Type 0 where
  pub size : length steps ≡ length lines
  pub each : (place : ℕ) (s : Step) → slice_get steps place ≡ Some s → IsOfPairs touches pairs s
  pub starts : (place : ℕ) (s : Step) → slice_get steps place ≡ Some s → slice_get lines place ≡ Some s.from
  pub ends : (place : ℕ) (s : Step) → slice_get steps place ≡ Some s
      → slice_get lines (place_behind place (length lines)) ≡ Some s.to
  pub first : (place : ℕ) (s t : Step) → slice_get steps place ≡ Some s → IsOfPairs touches pairs t
      → Leads t s.from s.to
      → IsToldBefore ranks s t

-- from each of the lines a step of a pair leads to the next, and from the last to the first
abbrev pub LeadAlong : List Touch → List Edge → List ℕ → Type 0
LeadAlong touches pairs lines = (place a b : ℕ) → slice_get lines place ≡ Some a
    → slice_get lines (place_behind place (length lines)) ≡ Some b → (s : Step) × IsOfPairs touches pairs s
    × Leads s a b
