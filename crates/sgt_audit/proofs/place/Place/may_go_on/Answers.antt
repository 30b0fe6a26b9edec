use Rattle.std.proofs.Common.{arith, sym, ◌∙◌, eqb-true, eq-eqb}
use Rattle.std.proofs.lemmas.Bool.{lt-ltb, ltb-true}
use Rattle.sgt_audit.proofs.Places.{goes-on-inside, goes-on-between, goes-on-site, not-between}
use Rattle.sgt_audit.proofs.place.Place.may_go_on.Goals as goal

pub returns-in-Some : goal.returns-in-Some
returns-in-Some c b is at = goes-on-inside b c.args.self.now is at _ _ _ c.in-Some.is c.has_room_for.ensures

pub returns-then-number-self : goal.returns-then-number-self
returns-then-number-self c b is at =
    goes-on-site b c.args.self.now is at _ _ c.in-Site.site c.in-None.is c.in-Site.is (
      λ h. let few = ltb-true _ _ h in
          (sym c.number.ensures.is ∙ c.if-number-self.true, omega (arith, few, c.number-then-number-self.ensures.is)),
      λ next. lt-ltb _ _ (omega (arith, next.1, c.number-then-number-self.ensures.is)),
    )

pub returns-else-number-self : goal.returns-else-number-self
returns-else-number-self c b is at =
    goes-on-site b c.args.self.now is at _ _ c.in-Site.site c.in-None.is c.in-Site.is
    (λ h. absurd (c.if-number-self.false (eqb-true _ _ h)), λ next. eq-eqb _ _ (c.number.ensures.is ∙ next.0))

pub returns-in_default : goal.returns-in_default
returns-in_default c b is at =
    goes-on-between b c.args.self.now is at _ _ c.in-None.is (not-between b _ c.in_default.not-Site)
