use mathlib.Core.Bool.{false≢true}
use Rattle.std.proofs.Common.{◌≡◌, ◌<◌, ◌∙◌, refl, sym, ap, subst, arith, length, List, All}
use Rattle.sgt_names.specs.Draft.{AreRising, at_site}
use Rattle.sgt_names.specs.declared.draft.Touch.{Touch}
use Rattle.sgt_names.proofs.Rising.{site-rising}
use Rattle.sgt_site.specs.State.{HasEnded}
use Rattle.sgt_site.specs.private.Cells.{Contents, IsTouched}
use Rattle.sgt_site.specs.private.Kept.{pledge_of}
use Rattle.sgt_site.proofs.Keeps.{no_pledge}
use Rattle.sgt_site.proofs.Nearby.{may-here}
use Rattle.sgt_site.proofs.Pledges.{kept-open, kept-pledge}
use Rattle.sgt_site.proofs.site.Site.try_pledge.Goals as goal

pub all_kept-requires : goal.all_kept-requires
all_kept-requires c =
    subst AreRising (sym (c.as_slice-part.ensures.value ∙ c.if-not-copy_part.ensures refl))
    (site-rising c.self.inside.number c.args.near.now c.requires.rising)

pub invariant_of-self-then-not-prepare : goal.invariant_of-self-then-not-prepare
invariant_of-self-then-not-prepare c =
    let free = no_pledge c.self.inside.pledged c.self.inside.part.items (rw (← c.self.view_is) at c.requires.free) in (
      kept-open _ _ _ _ _ _ c.self.invariant.0 c.prepare.ensures.same _
          (ap (λ o. pledge_of o c.copy_part.new.part.items) free),
      c.self.invariant.1,
      c.self.invariant.2,
    )

pub invariant_of-self-then-not-make_rooms : goal.invariant_of-self-then-not-make_rooms
invariant_of-self-then-not-make_rooms c =
    let free = no_pledge c.self.inside.pledged c.self.inside.part.items (rw (← c.self.view_is) at c.requires.free) in
    rw (c.make_rooms.ensures.entries, c.make_rooms.ensures.installed, c.make_rooms.ensures.ended.0) (
      kept-open _ _ _ _ _ _ c.self.invariant.0 c.prepare.ensures.same _
          (ap (λ o. pledge_of o c.copy_part.new.part.items) free),
      c.self.invariant.1,
      c.make_rooms.ensures.items ∙ c.self.invariant.2,
    )

pub invariant_of-self-2 : goal.invariant_of-self-2
invariant_of-self-2 c =
    let copied = c.if-not-copy_part.ensures refl in
    let is : c.as_slice-part.result.now ≡ at_site c.self.inside.number c.args.near.now =
    c.as_slice-part.ensures.value ∙ copied in
    let active : HasEnded c.self.inside.log.entries c.args.tx
    → ⊥ = λ ended. false≢true
    (c.if-has_ended.ensures.1 (rw c.as_slice.ensures.value ((c.self.invariant.0.ends c.args.tx).1 ended))) in
    let may = may-here _ c.self.inside.cells _ _ c.self.invariant.0 c.args.tx c.args.near.now
    c.as_slice-part.result.now is (rw (← c.self.view_is) at c.requires.free) active
    (c.if-not-prepare.ensures.there refl)
    c.self.inside.pending c.self.invariant.1 _ c.items_of.ensures (c.if-not-all_kept.ensures.0 refl) in
    rw (c.make_rooms.ensures.entries, c.make_rooms.ensures.installed, c.make_rooms.ensures.ended.0, copied) (
      kept-pledge _ _ _ _ _ _ c.self.invariant.0 c.prepare.ensures.same _ c.args.near.now
          (site-rising c.self.inside.number c.args.near.now c.requires.rising) may record {
            log = let same = ap length is in
                omega (arith, same, c.if-not-make_rooms.ensures.log_room refl);
            ended = omega (arith, c.if-not-make_rooms.ensures.ended_room refl, c.make_rooms.ensures.ended.1);
            touched = subst (λ (ts : List Touch). All (λ (d : Contents). IsTouched ts d.item
                → 0 < d.has_room) c.prepare.new.self) is (c.if-not-prepare.ensures.room refl);
          },
      c.self.invariant.1,
      c.make_rooms.ensures.items ∙ c.self.invariant.2,
    )

pub returns-clause-may : goal.returns-clause-may
returns-clause-may c = λ _.
    let is : c.as_slice-part.result.now ≡ at_site c.self.inside.number c.args.near.now =
    c.as_slice-part.ensures.value ∙ c.if-not-copy_part.ensures refl in
    let active : HasEnded c.self.inside.log.entries c.args.tx
    → ⊥ = λ ended. false≢true
    (c.if-has_ended.ensures.1 (rw c.as_slice.ensures.value ((c.self.invariant.0.ends c.args.tx).1 ended))) in
    rw (← c.self.view_is) (may-here _ c.self.inside.cells _ _ c.self.invariant.0 c.args.tx c.args.near.now
    c.as_slice-part.result.now is (rw (← c.self.view_is) at c.requires.free) active
    (c.if-not-prepare.ensures.there refl)
    c.self.inside.pending c.self.invariant.1 _ c.items_of.ensures (c.if-not-all_kept.ensures.0 refl))
