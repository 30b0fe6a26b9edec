use Rattle.std.proofs.Common.{refl, subst}
use Rattle.sgt_notation.specs.declared.SectionLine.TheVariants.{Logged}
use Rattle.sgt_audit.specs.Kept.{IsCurrentPlace}
use Rattle.sgt_audit.specs.declared.place.OpenPlace.{OpenPlace}
use Rattle.sgt_audit.proofs.Places.{logged-entered, longer}
use Rattle.sgt_audit.proofs.place.Place.enter_entry.Goals as goal

pub returns-in-Some : goal.returns-in-Some
returns-in-Some c b is follow at =
    let e = c.args.entry.now in
    let old = c.in-Some.here in
    let new : OpenPlace = record old { last = c.last_of-here.result } in
    longer b _ at.sites b.current (Logged e) old new (λ same. cc) at.whole refl
    (λ log room fits o. logged-entered log old new o e refl c.last_of-here.ensures refl) is.room follow
    (subst (IsCurrentPlace b.current) c.in-Some.is at.current)
