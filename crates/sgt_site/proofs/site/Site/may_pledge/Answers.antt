use mathlib.Core.Bool.{false≢true}
use Rattle.std.proofs.Common.{refl, sym, ap}
use Rattle.sgt_site.specs.private.Cells.{HasItem}
use Rattle.sgt_site.specs.private.Kept.{pledge_of}
use Rattle.sgt_site.specs.State.{HasEnded}
use Rattle.sgt_site.proofs.Pledges.{known-part, known-whole, keeps-from, keeps-logged, keeps-own}
use Rattle.sgt_site.proofs.PendingReads.{own-kept, kept-own}
use Rattle.sgt_site.proofs.Keeps.{pledged_some, pledged_none}
use Rattle.sgt_site.proofs.site.Site.may_pledge.Goals as goal

pub returns-then-not-changes_known-clause-refused : goal.returns-then-not-changes_known-clause-refused
returns-then-not-changes_known-clause-refused c =
    rw (← c.self.view_is, ← c.self.invariant.0.names_same)
    (λ known. false≢true (c.if-not-changes_known.ensures.1 (known-whole _ (HasItem c.self.inside.cells) _ known)))

pub returns-then-has_ended-clause-refused : goal.returns-then-has_ended-clause-refused
returns-then-has_ended-clause-refused c = rw (← c.self.view_is, ← c.self.invariant.0.names_same) (
  known-part _ (HasItem c.self.inside.cells) _ (c.if-not-changes_known.ensures.0 refl),
  (c.self.invariant.0.ends c.args.tx).0 (rw c.as_slice.ensures.value at (c.if-has_ended.ensures.0 refl)),
)

pub returns-then-is_some-clause-refused : goal.returns-then-is_some-clause-refused
returns-then-is_some-clause-refused c = rw (← c.self.view_is, ← c.self.invariant.0.names_same) (
  (
    known-part _ (HasItem c.self.inside.cells) _ (c.if-not-changes_known.ensures.0 refl),
    (λ ended. false≢true
        (c.if-has_ended.ensures.1 (rw c.as_slice.ensures.value ((c.self.invariant.0.ends c.args.tx).1 ended)))),
  ),
  (λ none. pledged_some c.self.inside.pledged c.self.inside.part.items (sym c.if-is_some.ensures) none),
)

pub returns-then-not-keeps_reads-clause-refused : goal.returns-then-not-keeps_reads-clause-refused
returns-then-not-keeps_reads-clause-refused c =
    let logged =
    keeps-logged _ c.self.inside.cells c.self.invariant.0.site c.self.invariant.0.names_same
    c.self.invariant.0.each c.args.tx c.args.touched.now in
    let own =
    keeps-own _ c.self.inside.cells c.self.invariant.0.site c.self.invariant.0.names_same c.self.invariant.0.each
    c.args.tx c.args.touched.now in
    rw (← c.self.view_is, ← c.self.invariant.0.names_same) (
      (
        (
          known-part _ (HasItem c.self.inside.cells) _ (c.if-not-changes_known.ensures.0 refl),
          (λ ended. false≢true
              (c.if-has_ended.ensures.1 (rw c.as_slice.ensures.value ((c.self.invariant.0.ends c.args.tx).1 ended)))),
        ),
        ap (λ o. pledge_of o c.self.inside.part.items) (pledged_none c.self.inside.pledged (sym c.if-is_some.ensures)),
      ),
      (λ keeps. false≢true
          (c.if-not-keeps_reads.ensures.differs (logged keeps)
          (kept-own _ c.self.inside.pending _ _ c.self.invariant.1 (own keeps)))),
    )

pub returns-clause-allowed : goal.returns-clause-allowed
returns-clause-allowed c =
    let active : HasEnded c.self.inside.log.entries c.args.tx
    → ⊥ = λ ended. false≢true
    (c.if-has_ended.ensures.1 (rw c.as_slice.ensures.value ((c.self.invariant.0.ends c.args.tx).1 ended))) in
    rw (← c.self.view_is) record {
      known = rw (← c.self.invariant.0.names_same)
          (known-part _ (HasItem c.self.inside.cells) _ (c.if-not-changes_known.ensures.0 refl));
      active = λ ended. false≢true
          (c.if-has_ended.ensures.1 (rw c.as_slice.ensures.value ((c.self.invariant.0.ends c.args.tx).1 ended)));
      free = ap (λ o. pledge_of o c.self.inside.part.items)
          (pledged_none c.self.inside.pledged (sym c.if-is_some.ensures));
      same = keeps-from _ c.self.inside.cells c.self.invariant.0.site c.self.invariant.0.names_same
          c.self.invariant.0.each _ _ (c.if-not-keeps_reads.ensures.logged refl)
          (own-kept _ c.self.inside.pending _ _ c.self.invariant.1 active (c.if-not-keeps_reads.ensures.kept refl));
    }
