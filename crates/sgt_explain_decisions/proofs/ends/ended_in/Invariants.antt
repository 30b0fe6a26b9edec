use Rattle.std.proofs.Common.{All}
use Rattle.sgt_explain_decisions.specs.Ends.{HasEnd}
use Rattle.sgt_explain_decisions.proofs.ends.ended_in.Given as goal

abbrev pub invariant-loop-logged : goal.invariant-loop-logged
invariant-loop-logged l = All (HasEnd l.entries) l.ended.items
