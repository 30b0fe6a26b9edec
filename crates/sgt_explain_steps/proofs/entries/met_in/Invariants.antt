use Rattle.std.proofs.Common.{◌≡◌}
use Rattle.sgt_names.specs.Entry.{tx_of}
use Rattle.sgt_explain_lines.specs.Clashing.{InNoConflict}
use Rattle.sgt_explain_steps.proofs.Meetings.{NonePaired}
use Rattle.sgt_explain_steps.proofs.entries.met_in.Given as goal

abbrev pub invariant-loop-place : goal.invariant-loop-place
invariant-loop-place l = NonePaired (λ e f. tx_of e ≡ l.from → InNoConflict l.step.label.item e f) l.step.to l.entries
    l.place
