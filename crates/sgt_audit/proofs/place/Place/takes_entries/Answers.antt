use Rattle.std.proofs.Common.{eqb-true, eq-eqb, false}
use Rattle.sgt_notation.specs.declared.SectionLine.TheVariants.{Logged}
use Rattle.sgt_audit.proofs.Places.{goes-on-inside, goes-on-between, not-between}
use Rattle.sgt_audit.proofs.place.Place.takes_entries.Goals as goal

pub returns-in-Some : goal.returns-in-Some
returns-in-Some c b e is at =
    goes-on-inside b c.args.self.now is at (Logged e) _ _ c.in-Some.is (λ h. eqb-true _ _ h, λ f. eq-eqb _ _ f)

pub returns-in-None : goal.returns-in-None
returns-in-None c b e is at =
    goes-on-between b c.args.self.now is at (Logged e) false c.in-None.is (not-between b (Logged e) (λ k same. cc))
