use Rattle.std.proofs.Common.{ap, arith, refl}
use Rattle.std.proofs.lemmas.Bool.{ltb-true}
use Rattle.sgt_site.specs.declared.readings.Reading.{Reading}
use Rattle.sgt_site.proofs.Tails.{gap-before}
use Rattle.sgt_site.proofs.readings.is_gap.Goals as goal

pub returns-else-place-end-2 : goal.returns-else-place-end-2
returns-else-place-end-2 c = λ hit.
    let next = c.index-readings-place.result in
    let same = ap (λ (m : Reading). m.tx) c.index-readings-place.is in
    let less = ltb-true _ _ hit in
    gap-before (λ (m : Reading). m.tx) _ _ _ next c.requires
    (omega (arith, c.if-place-end.false, c.if-place-end-2.false))
    (c.if-not-are_below.ensures refl) c.index-readings-place.is
    (omega (arith, same, less, c.number.ensures.is, c.number-else-place-end-2.ensures.is))
