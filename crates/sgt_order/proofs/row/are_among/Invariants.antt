use Rattle.std.proofs.Common.{◌≡◌, ℕ, ◌<◌, get_or}
use Rattle.std.specs.Prelude.{bit_or}
use Rattle.sgt_order.proofs.row.are_among.Given as goal

abbrev pub invariant-loop-at : goal.invariant-loop-at
invariant-loop-at l = (j : ℕ) → j < l.at → bit_or (get_or l.words j 0) (get_or l.others j 0) ≡ get_or l.others j 0
