use Rattle.std.proofs.Common.{◌≡◌, ◌<◌, length, arith}
use Rattle.std.proofs.lemmas.Option.{slice_get_within}
use Rattle.sgt_history_conflicts.proofs.Adding.{added-more}
use Rattle.sgt_history_conflicts.proofs.pairs.push_forward.Goals as goal

pub returns : goal.returns
returns c =
    added-more c.args.touches.now c.args.kind (λ i k. k < c.loop-at.at) (λ i k. Unit {0}) c.args.pairs.now.items
    c.loop-at.pairs.items
    (λ i k may pair. omega (arith, slice_get_within c.args.touches.now k pair.b pair.second)) c.loop-at.invariant.added
