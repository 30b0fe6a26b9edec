use Rattle.std.proofs.Common.{◌≡◌, ◌∙◌, ap, sym, subst, arith, length, IfSome}
use Rattle.std.proofs.lemmas.Bool.{true≢false}
use Rattle.sgt_names.proofs.Lists.{element_at}
use Rattle.sgt_site.specs.State.{AreItems, opened}
use Rattle.sgt_service_locks.proofs.Items.{AreOpened, all_opened, opened_next, sites_grow, sites_all, sites_long}
use Rattle.sgt_service_locks.proofs.service.open_sites.Goals as goal
use Rattle.sgt_service_locks.proofs.service.open_sites.Goals.{then-not-add_site, else-not-add_site}

pub loop-place-preserved : goal.loop-place-preserved
loop-place-preserved c =
    let sites = c.args.sites.now in
    let n = c.loop-place.place in
    let items = c.index-sites-place.result in
    let o = c.in_ok-opened.opened in
    let shown = c.as_slice.ensures in
    let opened_here = subst (λ k. IfSome o (λ s. s ≡ opened k items)) c.in-Ok.ensures.1
    (subst (λ xs. IfSome o (λ s. s ≡ opened c.in-Ok.number xs)) shown c.in_ok-opened.ensures.ok) in
    record {
      sites = λ room. elim c.if-not-add_site.branch [
        | then-not-add_site w ↦ absurd (true≢false (sym room ∙ w.has_room-is))
        | else-not-add_site w ↦ sites_grow sites n items c.loop-place.all.items c.add_site.new.all.items o
            (element_at sites n items c.loop-place-test.true c.index-sites-place.is)
            (c.loop-place.invariant.sites (sym w.has_room-is ∙ room)) opened_here
            (c.add_site.ensures w.if-not-add_site.false)
      ];
      items = opened_next sites n items c.loop-place-test.true c.loop-place.invariant.items
          (subst AreItems (shown ∙ c.index-sites-place.is) c.in_ok-opened.ensures.allowed);
    }

pub returns-clause-sites : goal.returns-clause-sites
returns-clause-sites c =
    let e : c.loop-place.place ≡ length c.args.sites.now =
    omega (arith, c.loop-place-test.false, c.loop-place.auto.place-end) in
    sites_all c.args.sites.now c.loop-place.place c.loop-place.all.items e
    (c.loop-place.invariant.sites c.if-not-has_room.false)

pub returns-clause-many : goal.returns-clause-many
returns-clause-many c =
    let e : c.loop-place.place ≡ length c.args.sites.now =
    omega (arith, c.loop-place-test.false, c.loop-place.auto.place-end) in
    let all =
    sites_all c.args.sites.now c.loop-place.place c.loop-place.all.items e
    (c.loop-place.invariant.sites c.if-not-has_room.false) in
    c.loop-place.all.ok.0 ∙ ap length all ∙ sites_long 0 c.args.sites.now

pub returns-clause-allowed : goal.returns-clause-allowed
returns-clause-allowed c =
    let e : c.loop-place.place ≡ length c.args.sites.now =
    omega (arith, c.loop-place-test.false, c.loop-place.auto.place-end) in
    all_opened c.args.sites.now (subst (AreOpened c.args.sites.now) e c.loop-place.invariant.items)

pub returns-then-not-has_room-clause-refused : goal.returns-then-not-has_room-clause-refused
returns-then-not-has_room-clause-refused c =
    let e : c.loop-place.place ≡ length c.args.sites.now =
    omega (arith, c.loop-place-test.false, c.loop-place.auto.place-end) in
    all_opened c.args.sites.now (subst (AreOpened c.args.sites.now) e c.loop-place.invariant.items)
