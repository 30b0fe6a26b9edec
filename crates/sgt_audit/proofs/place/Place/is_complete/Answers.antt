use Rattle.std.proofs.Common.{eqb-true, eq-eqb}
use Rattle.std.proofs.lemmas.Bool.{false≢true}
use Rattle.sgt_audit.proofs.Places.{all-counted, not-all}
use Rattle.sgt_audit.proofs.place.Place.is_complete.Goals as goal

pub returns-in-Some : goal.returns-in-Some
returns-in-Some c b is at =
    (λ e. absurd (false≢true e), λ all. absurd (not-all b c.args.self.now is at _ c.in-Some.is all))

pub returns-in-None : goal.returns-in-None
returns-in-None c b is at = all-counted b c.args.self.now is at _ c.in-None.is (λ h. eqb-true _ _ h, λ e. eq-eqb _ _ e)
