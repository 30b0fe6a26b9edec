use Rattle.std.proofs.Common.{All, take}
use Rattle.sgt_names.specs.Entry.{tx_of}
use Rattle.sgt_explain_decisions.specs.Ends.{HasEnd}
use Rattle.sgt_explain_decisions.proofs.ends.unended.Given as goal

abbrev pub invariant-loop-logged : goal.invariant-loop-logged
invariant-loop-logged l = All (λ o. HasEnd l.entries (tx_of o.entry)) (take l.logged-index l.entries)
