use Rattle.std.proofs.Common.{ℕ, arith}
use Rattle.std.proofs.lemmas.Bool.{ltb-true}
use Rattle.sgt_site.proofs.Tails.{below-end}
use Rattle.sgt_site.proofs.site.are_below.Goals as goal

pub returns-then-place-gt0 : goal.returns-then-place-gt0
returns-then-place-gt0 c = λ hit.
    let last = c.index-ended-place.result in
    let less = ltb-true _ _ hit in
    below-end (λ (t : ℕ). t) _ _ _ last c.requires.rising (omega (arith, c.if-place-gt0.true)) c.requires.within
    c.index-ended-place.is
    (omega (arith, less, c.number.ensures.is, c.number-then-place-gt0.ensures.is))
