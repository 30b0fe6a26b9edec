use Rattle.std.proofs.Common.{◌≡◌, ◌<◌, ◌≤◌, ℕ, false}
use Rattle.sgt_step.specs.Touched.{is_in}
use Rattle.sgt_step.proofs.touched.TouchedSites.are_below.Given as goal

abbrev pub invariant-loop-number : goal.invariant-loop-number
invariant-loop-number l = (s : ℕ) → l.count ≤ s → s < l.number → is_in l.self s ≡ false
