use Rattle.std.proofs.Common.{subst, ℕ, List, Option}
use Rattle.sgt_history_kept.specs.Placed.{AllPlaced}
use Rattle.sgt_history_kept.proofs.Placing.{places-whole}
use Rattle.sgt_history_kept.proofs.places.places_of.Goals as goal

pub returns : goal.returns
returns c =
    let all =
    subst (λ (l : List (Option ℕ)). AllPlaced l) c.as_slice.ensures.value
    (c.all_placed.ensures c.if-not-all_placed.false) in
    places-whole c.args.order.now c.loop-at.places.items c.args.lines c.loop-at.at c.loop-at-test.false
    c.loop-at.invariant.size all c.loop-at.invariant.kept
