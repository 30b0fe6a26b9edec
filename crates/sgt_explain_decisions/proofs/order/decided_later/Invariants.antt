use Rattle.std.proofs.Common.{List, All, take}
use Rattle.sgt_bundle.specs.declared.certificate.Decision.{Decision}
use Rattle.sgt_explain_decisions.specs.Placed.{ArePlaced}
use Rattle.sgt_explain_decisions.specs.Decided.{IsNotLater}
use Rattle.sgt_explain_decisions.proofs.order.decided_later.Given as goal

abbrev pub invariant-loop-other : goal.invariant-loop-other
invariant-loop-other l = (ds : List Decision) → ArePlaced ds l.placed
    → All (IsNotLater ds l.own) (take l.other-index l.entries)
