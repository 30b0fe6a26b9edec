use Rattle.std.proofs.Common.{◌≡◌, ◌+◌, List, Some, length, take, refl, sym, ◌∙◌, subst, ap}
use Rattle.std.specs.Prelude.{slice_get, All, IsTrue}
use Rattle.std.proofs.lemmas.Bool.{true≢false}
use Rattle.std.proofs.lemmas.List.{take_all}
use Rattle.std.proofs.lemmas.Option.{slice_get_read}
use Rattle.sgt_site.specs.State.{AreItems}
use Rattle.sgt_core_machine.specs.declared.machine.Place.{Place}
use Rattle.sgt_core_machine.specs.Machine.{AreOpened}
use Rattle.sgt_core_machine.proofs.Opening.{one_opened, items_more}
use Rattle.sgt_core_machine.proofs.machine.opened_places.Goals as goal
use Rattle.sgt_core_machine.proofs.machine.opened_places.Goals.{then-add_place, else-add_place}

pub loop-i-preserved : goal.loop-i-preserved
loop-i-preserved c =
    let sites = c.args.sites.now in
    let i = c.loop-i.i in
    let items = c.as_slice.result.now in
    let at : slice_get sites i ≡ Some items =
    slice_get_read sites (length sites) i c.index-sites-i.result refl c.loop-i-test.true c.index-sites-i.is
    ∙ ap Some (sym c.as_slice.ensures) in
    let are : AreItems items = c.in_ok-opened.ensures.allowed in
    record {
      items = items_more sites i items at c.loop-i.invariant.items are;
      opened = λ t. elim c.if-add_place.branch [
        | then-add_place w ↦
            let added = c.add_place.ensures w.if-add_place.true in
            let was = c.loop-i.invariant.opened (subst IsTrue w.has_room-is t) in
            subst (λ (ps : List Place). AreOpened (take (i + 1) sites) ps) (sym added.2)
            (one_opened sites c.loop-i.places.items i items added.0 c.loop-i-test.true at was are
            (c.in_ok-opened.ensures.ok added.0 added.1))
        | else-add_place w ↦ absurd (true≢false (sym t ∙ (w.has_room-is ∙ w.if-add_place.false)))
      ];
    }

pub returns-clause-allowed : goal.returns-clause-allowed
returns-clause-allowed c =
    subst (All AreItems) (take_all c.loop-i.i c.args.sites.now c.loop-i-test.false) c.loop-i.invariant.items
