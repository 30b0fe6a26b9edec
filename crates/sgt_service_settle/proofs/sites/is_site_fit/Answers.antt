use Rattle.std.proofs.Common.{◌∙◌, sym, subst}
use Rattle.sgt_service_settle.specs.private.Acts.{AreKnown}
use Rattle.sgt_service_settle.proofs.sites.is_site_fit.Goals as goal

pub are_conflicts_handed-requires-clause-known : goal.are_conflicts_handed-requires-clause-known
are_conflicts_handed-requires-clause-known c =
    let held = c.args.held.now in
    let whole = c.as_slice.ensures.value ∙ (c.in_ok-log.ensures ∙ c.log.ensures.entries) in
    subst (λ xs. AreKnown xs c.as_slice.result.now) (sym c.items.ensures.items)
    (subst (AreKnown held.items) (sym whole) c.log.ensures.orderly.known)
