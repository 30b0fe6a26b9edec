use Rattle.std.proofs.Common.{All, take}
use Rattle.sgt_explain_decisions.specs.Cycles.{IsShownWhole}
use Rattle.sgt_explain_decisions.proofs.cycles.unmet_in.Given as goal

abbrev pub invariant-loop-number : goal.invariant-loop-number
invariant-loop-number l = All (IsShownWhole l.sought) (take l.number l.decisions)
