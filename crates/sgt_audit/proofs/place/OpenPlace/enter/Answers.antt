use Rattle.std.proofs.Common.{arith, refl, sym, subst}
use Rattle.sgt_audit.specs.declared.place.OpenPlace.{OpenPlace}
use Rattle.sgt_audit.specs.Kept.{IsOpenPlace}
use Rattle.sgt_audit.specs.private.Following.{Fits, with_line}
use Rattle.sgt_audit.proofs.Places.{final-entered, finals-few, initial-entered, logged-entered}
use Rattle.sgt_audit.proofs.place.OpenPlace.enter.Goals as goal

pub returns-in_ok-push-in-Initial : goal.returns-in_ok-push-in-Initial
returns-in_ok-push-in-Initial c log room fits o =
    let old = c.args.self.now in
    let new : OpenPlace = record old { items = c.push.new.self } in
    subst (λ l. IsOpenPlace (with_line log l) new) (sym c.in-Initial.is)
    (initial-entered log old new o c.in-Initial.holding c.in_ok-push-in-Initial.ensures.items refl refl)

pub returns-in-Logged : goal.returns-in-Logged
returns-in-Logged c log room fits o =
    let old = c.args.self.now in
    let new : OpenPlace = record old { last = c.last_of-self.result } in
    subst (λ l. IsOpenPlace (with_line log l) new) (sym c.in-Logged.is)
    (logged-entered log old new o c.in-Logged.entry refl c.last_of-self.ensures refl)

pub returns-in-Final : goal.returns-in-Final
returns-in-Final c log room fits o =
    let old = c.args.self.now in
    let new : OpenPlace = record old { finals = c.saturating_add-self.result } in
    let few = finals-few log old c.in-Final.field-0 room o (subst (Fits log) c.in-Final.is fits) in
    subst (λ l. IsOpenPlace (with_line log l) new) (sym c.in-Final.is)
    (final-entered log old new o c.in-Final.field-0 refl refl (omega (arith, few, c.saturating_add-self.ensures)))

pub returns-in-Site : goal.returns-in-Site
returns-in-Site c log room fits o = subst (λ l. IsOpenPlace (with_line log l) c.args.self.now) (sym c.in-Site.is) o

pub returns-in-End : goal.returns-in-End
returns-in-End c log room fits o = subst (λ l. IsOpenPlace (with_line log l) c.args.self.now) (sym c.in-End.is) o
