use Rattle.std.proofs.Common.{subst}
use Rattle.sgt_certify.specs.Answer.{SpellsValid}
use Rattle.sgt_certify.proofs.Made.{certified-from}
use Rattle.sgt_certify.proofs.making.certified.Goals as goal

pub returns-then-yes-clause-made : goal.returns-then-yes-clause-made
returns-then-yes-clause-made c =
    let valid = subst SpellsValid c.as_slice.ensures.value (c.in_ok-yes.ensures.yes c.if-yes.true) in
    certified-from _ _ _ valid.0 (rw c.in-Ok.is at c.in_ok-made.ensures.made) valid.1 valid.2
