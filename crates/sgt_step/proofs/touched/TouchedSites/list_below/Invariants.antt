use Rattle.std.proofs.Common.{◌≡◌}
use Rattle.std.specs.Prelude.{filter}
use Rattle.std.specs.List.{range_with_len}
use Rattle.sgt_step.specs.Touched.{is_in}
use Rattle.sgt_step.proofs.touched.TouchedSites.list_below.Given as goal

abbrev pub invariant-loop-number : goal.invariant-loop-number
invariant-loop-number l = l.sites.items ≡ filter (is_in l.self) (range_with_len 0 l.number)
