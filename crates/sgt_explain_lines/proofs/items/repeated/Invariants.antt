use Rattle.std.proofs.Common.{take, All}
use Rattle.sgt_names.specs.Entry.{Repeats}
use Rattle.sgt_explain_lines.proofs.items.repeated.Given as goal

abbrev pub invariant-loop-other : goal.invariant-loop-other
invariant-loop-other l = All (λ other. Repeats l.item other.entry l.entry → ⊥) (take l.other-index l.entries)
