use Rattle.std.proofs.Common.{arith, inl, inr, refl}
use Rattle.sgt_page.proofs.cut.cut_at_line.Goals as goal

pub returns-in-Some : goal.returns-in-Some
returns-in-Some c =
    let found = c.in-Some.ensures.byte (omega arith) (λ w o finds. finds) in inl (found.2, found.0, found.1)

pub returns-in-None : goal.returns-in-None
returns-in-None c = inr (c.in-None.ensures.byte (omega arith) (λ w o finds. finds), refl, refl)
