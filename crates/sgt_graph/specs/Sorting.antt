-- What is kept up while nodes are put in order.
use Rattle.std.specs.Prelude.{◌≡◌, ◌==◌, ◌&&◌, nat_lt, if◌then◌else◌, ℕ, ◌+◌, ◌≤◌, List, length, count_by, map, slice_index}
use Rattle.std.specs.declared.cmp.Reverse.{Reverse}
use Rattle.sgt_graph.specs.declared.edge.Edge.{Edge}
use Rattle.sgt_graph.specs.Graph.{IsLeastFirst}

-- how often the number stands there
abbrev pub count_of : ℕ → List ℕ → ℕ
count_of v xs = count_by (λ x. x == v) xs

-- how many edges lead to the node from one that isn't placed
abbrev pub waiting : List ℕ → List Edge → ℕ → ℕ
waiting placed edges v = count_by (λ (e : Edge). (e.to == v) && (count_of e.from placed == 0)) edges

-- the numbers in a heap whose least one is on top
abbrev pub numbers : List (Reverse ℕ) → List ℕ
numbers heap = map (λ (r : Reverse ℕ). r.0) heap

-- of the nodes below the limit, each that waits for none is once in one of the lists; no other is
abbrev pub IsTallied : ℕ → (waits free order : List ℕ) → Type 0
IsTallied limit waits free order = (v : ℕ) → count_of v free + count_of v order
    ≡ (if nat_lt v limit && (slice_index waits v == 0) then 1 else 0)

-- the nodes below the limit are looked at
pub record IsUnderWay (nodes : ℕ) (edges : List Edge) (limit : ℕ) (waits free order : List ℕ) : Type 0 where
  pub few : limit ≤ nodes
  pub len : length waits ≡ nodes
  pub counts : (v : ℕ) → slice_index waits v ≡ waiting order edges v
  pub tally : IsTallied limit waits free order
  pub least : IsLeastFirst nodes edges order
