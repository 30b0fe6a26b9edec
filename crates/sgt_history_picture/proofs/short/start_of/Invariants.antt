use Rattle.std.proofs.Common.{◌≡◌, ◌≤◌}
use Rattle.sgt_history_picture.specs.Short.{start_of}
use Rattle.sgt_history_picture.proofs.short.start_of.Given as goal

abbrev pub invariant-loop-place : goal.invariant-loop-place
invariant-loop-place l = (start_of l.text l.place ≡ start_of l.text l.at) × (l.place ≤ l.at)

abbrev pub decreases-loop-place : goal.decreases-loop-place
decreases-loop-place l = l.place
