use Rattle.std.proofs.Common.{◌≡◌, ℕ, ◌<◌, true, false, not, length, get_or, slice_index, count_by, Contains}
use Rattle.sgt_graph.specs.Walks.{IsSource, IsTrail}
use Rattle.sgt_graph.proofs.walking.cycle_back.Given as goal

abbrev pub invariant-back : goal.invariant-back
invariant-back l = (length l.met.items ≡ length l.waits) × (0 < slice_index l.waits l.here)
    × ((v : ℕ) → get_or l.met.items v false ≡ true → Contains l.walk.items v)
    × IsTrail (λ x y. IsSource l.waits l.sources y x) l.walk.items l.here

abbrev pub decreases-back : goal.decreases-back
decreases-back l = count_by not l.met.items
