use Rattle.std.proofs.Common.{◌≡◌, All, take}
use Rattle.sgt_names.specs.Entry.{tx_of}
use Rattle.sgt_explain_steps.specs.Unmet.{Does}
use Rattle.sgt_explain_steps.proofs.entries.own_in.Given as goal

abbrev pub invariant-loop-logged : goal.invariant-loop-logged
invariant-loop-logged l = All (λ m. tx_of m.entry ≡ l.tx → Does l.reads l.item m.entry
    → ⊥) (take l.logged-index l.entries)
