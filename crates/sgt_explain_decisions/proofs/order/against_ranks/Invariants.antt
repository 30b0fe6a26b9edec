use Rattle.std.proofs.Common.{All, take}
use Rattle.sgt_bundle.specs.Certificate.{IsDecidedOnce}
use Rattle.sgt_bundle.specs.Valid.{RiseInRank}
use Rattle.sgt_explain_decisions.specs.Placed.{ArePlaced}
use Rattle.sgt_explain_decisions.proofs.order.against_ranks.Given as goal

abbrev pub invariant-loop-other : goal.invariant-loop-other
invariant-loop-other l = ArePlaced l.decisions l.placed → IsDecidedOnce l.decisions
    → All (λ m. RiseInRank l.decisions m.entry l.logged.entry) (take l.other-index l.section.entries.items)
