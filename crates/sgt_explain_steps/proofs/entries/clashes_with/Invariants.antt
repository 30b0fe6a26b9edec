use Rattle.std.proofs.Common.{All, take}
use Rattle.sgt_explain_steps.specs.Unmet.{StepsTo}
use Rattle.sgt_explain_steps.proofs.entries.clashes_with.Given as goal

abbrev pub invariant-loop-first : goal.invariant-loop-first
invariant-loop-first l = All (λ m. StepsTo l.from l.step m.entry l.second → ⊥) (take l.first-index l.entries)
