-- By which labels of lines a cycle is known to be the first.
use Rattle.std.specs.Prelude.{◌≡◌, ℕ, ◌+◌, ◌*◌, ◌<◌, ◌≤◌, List, Some, length, slice_get, slice_index}
use Rattle.sgt_history_kept.specs.Rising.{Rises}
use Rattle.sgt_history_kept.specs.declared.labels.Labels.{Labels}
use Rattle.sgt_history_verdict.specs.Steps.{place_behind}

-- the line is left on no lower level than it is come to, below the node on a higher one
pub record IsLeveled (node : ℕ) (l : Labels) (line : ℕ) : Type 0 where
  pub level : slice_index l.enters.items line ≤ slice_index l.leaves.items line
  pub below : line < node → slice_index l.enters.items line < slice_index l.leaves.items line

-- keys order lines by their distances, and then as they are; the least key behind the line is that of one which is
-- nearer by one at most
pub record IsKeyed (l : Labels) (line : ℕ) : Type 0 where
  pub key : slice_index l.keys.items line ≡ slice_index l.distances.items line * 4294967296 + line
  pub near : slice_index l.distances.items line * 4294967296 ≤ slice_index l.least.items line + 4294967296

pub record IsLabeled (node : ℕ) (l : Labels) (line : ℕ) : Type 0 where
  pub leveled : IsLeveled node l line
  pub keyed : IsKeyed l line

-- no step leads down, or to a lesser key than the least
pub record AreLabelsOf (R : ℕ → ℕ → Type 0) (l : Labels) : Type 0 where
  pub levels : Rises R l.leaves.items l.enters.items
  pub keys : Rises R l.least.items l.keys.items

-- the next line is so far from the end, and has the least key of those behind the line
pub record LeadsHome (l : Labels) (left line next : ℕ) : Type 0 where
  pub distance : slice_index l.distances.items next ≡ left
  pub nearest : slice_index l.keys.items next ≤ slice_index l.least.items line

-- from each of the first n places the next line is as far from the end as there are places behind
abbrev pub LeadHome : Labels → List ℕ → ℕ → Type 0
LeadHome l cycle n = (place a b : ℕ) → place < n → slice_get cycle place ≡ Some a
    → slice_get cycle (place_behind place (length cycle)) ≡ Some b
    → (left : ℕ) → left + (place + 1) ≡ length cycle → LeadsHome l left a b
