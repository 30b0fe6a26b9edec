use Rattle.std.proofs.Common.{◌≡◌, All, take}
use Rattle.sgt_names.specs.Entry.{tx_of}
use Rattle.sgt_explain_lines.specs.Clashing.{InNoConflict}
use Rattle.sgt_explain_steps.proofs.entries.met_with.Given as goal

abbrev pub invariant-loop-first : goal.invariant-loop-first
invariant-loop-first l = All (λ m. tx_of m.entry ≡ l.from → InNoConflict l.step.label.item m.entry l.second.entry)
    (take l.first-index l.entries)
