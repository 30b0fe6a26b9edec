use Rattle.std.proofs.Common.{◌≡◌, take}
use Rattle.sgt_explain_decisions.specs.Placed.{all_placed}
use Rattle.sgt_explain_decisions.proofs.placed.placed_in.Given as goal

abbrev pub invariant-loop-number : goal.invariant-loop-number
invariant-loop-number l = l.placed.items ≡ all_placed (take l.number l.decisions)
