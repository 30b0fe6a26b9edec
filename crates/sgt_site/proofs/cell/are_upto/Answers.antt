use Rattle.std.proofs.Common.{ap, arith}
use Rattle.std.proofs.lemmas.Bool.{leb-true}
use Rattle.sgt_site.specs.declared.cell.Reader.{Reader}
use Rattle.sgt_site.proofs.Tails.{upto-end}
use Rattle.sgt_site.proofs.cell.are_upto.Goals as goal

pub returns-then-place-gt0 : goal.returns-then-place-gt0
returns-then-place-gt0 c = λ hit.
    let last = c.index-readers-place.result in
    let same = ap (λ (r : Reader). r.version) c.index-readers-place.is in
    let le = leb-true _ _ hit in
    upto-end (λ (r : Reader). r.version) _ _ _ last c.requires.sorted (omega (arith, c.if-place-gt0.true))
    c.requires.within c.index-readers-place.is
    (omega (arith, same, le))
