use Rattle.std.proofs.Common.{◌≡◌, ◌+◌, None, arith, refl, sym, ap, ◌∙◌, subst}
use Rattle.std.proofs.lemmas.Result.{on_ok_weaker}
use Rattle.sgt_audit.specs.declared.place.Last.TheVariants as last
use Rattle.sgt_audit.specs.declared.place.OpenPlace.{OpenPlace}
use Rattle.sgt_audit.specs.declared.place.Place.{Place}
use Rattle.sgt_audit.specs.Kept.{IsCurrentPlace, IsPlace}
use Rattle.sgt_audit.specs.private.Following.{with_next}
use Rattle.sgt_audit.proofs.Places.{fresh-open, opened, ended, longer, whole-few}
use Rattle.sgt_audit.proofs.place.Place.enter.Goals as goal

pub returns-in-None : goal.returns-in-None
returns-in-None c b is follow at =
    let o : OpenPlace = record { items = c.new.result; last = last.NoEntry; finals = 0 } in
    opened b _ at.sites b.current c.args.line.now o at.whole refl (fresh-open o c.new.ensures.items refl refl)
    (subst (IsCurrentPlace b.current) c.in-None.is at.current)

pub returns-in-End : goal.returns-in-End
returns-in-End c b is follow at =
    let old = c.args.self.now in
    let new : Place = record old { whole = c.saturating_add-self.result; current = None } in
    let few = whole-few b _ old is at c.in-Some.is in
    let whole : new.whole ≡ old.whole + 1 = omega (arith, few, c.saturating_add-self.ensures) in
    subst (λ l. IsPlace (with_next b b.current l) new) (sym c.in-End.is) (ended b new at.sites b.current _ (whole
    ∙ ap (λ n. n + 1) at.whole) refl (subst (IsCurrentPlace b.current) c.in-Some.is at.current))

pub returns-in_default : goal.returns-in_default
returns-in_default c =
    on_ok_weaker c.enter.result (λ enters b is follow at. longer b _ at.sites b.current c.args.line.now _ _
    c.in_default.not-End at.whole refl enters is.room follow
    (subst (IsCurrentPlace b.current) c.in-Some.is at.current)) c.enter.ensures
