use Rattle.std.proofs.Common.{take, All}
use Rattle.sgt_explain_decisions.specs.Ends.{EndsTx}
use Rattle.sgt_explain_decisions.proofs.ends.end_of.Given as goal

abbrev pub invariant-loop-logged : goal.invariant-loop-logged
invariant-loop-logged l = All (λ other. EndsTx l.tx other.entry → ⊥) (take l.logged-index l.entries)
