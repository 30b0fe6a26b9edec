use Rattle.std.proofs.Common.{ap, arith}
use Rattle.std.proofs.lemmas.Bool.{ltb-true}
use Rattle.sgt_site.specs.declared.readings.Reading.{Reading}
use Rattle.sgt_site.proofs.Tails.{below-end}
use Rattle.sgt_site.proofs.readings.are_below.Goals as goal

pub returns-else-place-eq0 : goal.returns-else-place-eq0
returns-else-place-eq0 c = λ hit.
    let last = c.index-readings-place.result in
    let same = ap (λ (m : Reading). m.tx) c.index-readings-place.is in
    let less = ltb-true _ _ hit in
    below-end (λ (m : Reading). m.tx) _ _ _ last c.requires.rising (omega (arith, c.if-place-eq0.false))
    c.requires.within c.index-readings-place.is
    (omega (arith, same, less, c.number.ensures.is, c.number-else-place-eq0.ensures.is))
