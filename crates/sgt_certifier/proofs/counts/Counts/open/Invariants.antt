use Rattle.std.proofs.Common.{◌≡◌, ◌≤◌, ℕ, length}
use Rattle.sgt_certifier.specs.Counted.{row_at}
use Rattle.sgt_certifier.proofs.counts.Counts.open.Given as goal

-- the counts are the same, and there are so many rows
abbrev pub invariant-loop-row : goal.invariant-loop-row
invariant-loop-row l = record {
  same : (s : ℕ) → row_at l.self s ≡ row_at l.initial.self s;
  long : l._row ≤ length l.self.rows.items;
  more : length l.initial.self.rows.items ≤ l._row;
}
