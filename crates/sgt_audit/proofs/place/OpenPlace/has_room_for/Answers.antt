use Rattle.std.proofs.Common.{◌≡◌, Some, IsTrue, false, rules, sym, ap, ◌∙◌, subst}
use Rattle.std.specs.Prelude.{◌↔◌}
use Rattle.std.proofs.lemmas.Option.{same_Some}
use Rattle.sgt_audit_cells.proofs.Tracking.{got, missed}
use Rattle.sgt_audit_decisions.proofs.Loops.{answered-no}
use Rattle.sgt_audit.specs.private.Following.{FitsAt}
use Rattle.sgt_audit.proofs.place.OpenPlace.has_room_for.Goals as goal

pub returns-in-Some : goal.returns-in-Some
returns-in-Some c =
    let at = got _ _ _ _ c.deref.ensures.value c.in-Some.ensures.lookup.0 c.in-Some.ensures.lookup.1 in
    let same : IsTrue c.eq.result ↔ (c.in-Some.item.now ≡ c.in-Final.holding.item) = search rules in
    subst (λ l. IsTrue c.eq.result ↔ FitsAt c.args.self.now l) (sym c.in-Final.is) (
      λ e. at ∙ ap Some (same.0 e),
      λ f. same.1 (same_Some _ _ (sym at ∙ f)),
    )

pub returns-in-None : goal.returns-in-None
returns-in-None c =
    subst (λ l. IsTrue false ↔ FitsAt c.args.self.now l) (sym c.in-Final.is)
    (answered-no (λ there. missed _ _ _ _ c.deref.ensures.value c.in-None.ensures.lookup.0 there))
