use Rattle.std.proofs.Common.{length, refl, subst}
use Rattle.std.proofs.lemmas.List.{take_all}
use Rattle.std.proofs.lemmas.Option.{slice_get_read}
use Rattle.sgt_core_machine.specs.Machine.{parts_of, GoesOn}
use Rattle.sgt_core_machine.specs.private.Whole.{GathersAll}
use Rattle.sgt_core_machine.proofs.Standing.{goes_stands}
use Rattle.sgt_core_machine.proofs.WholeGoing.{gathering_none, gather_may, gathering_on, gathering_stops}
use Rattle.sgt_core_machine.proofs.machine.Machine.gather_all.Goals as goal

pub loop-site-init : goal.loop-site-init
loop-site-init c = record {
  stands = c.requires.stands;
  slot = c.requires.slot;
  gathered = gathering_none (parts_of c.args.self.now) c.args.tx c.args.sites.now c.requires.whole;
}

pub gather_allowed-requires-clause-allowed : goal.gather_allowed-requires-clause-allowed
gather_allowed-requires-clause-allowed c =
    let sites = c.args.sites.now in
    let i = c.loop-site.site-index in
    let at = slice_get_read sites (length sites) i c.site-item.result refl c.loop-site-test.true c.site-item.is in
    gather_may (parts_of c.args.self.now) (parts_of c.loop-site.self) c.requires.stands c.args.tx sites c.requires.whole
    c.args.slot c.loop-site.invariant.slot i c.site-item.result at c.loop-site.invariant.gathered

pub loop-site-preserved : goal.loop-site-preserved
loop-site-preserved c =
    let sites = c.args.sites.now in
    let i = c.loop-site.site-index in
    let at = slice_get_read sites (length sites) i c.site-item.result refl c.loop-site-test.true c.site-item.is in
    record {
      stands = goes_stands _ _ _ c.loop-site.invariant.stands c.gather_allowed.ensures.goes;
      slot = c.gather_allowed.ensures.slot;
      gathered = gathering_on (parts_of c.args.self.now) (parts_of c.loop-site.self) (parts_of c.gather_allowed.new.self)
          c.args.tx sites c.requires.whole i c.site-item.result at c.gather_allowed.result c.loop-site.invariant.gathered
          c.gather_allowed.ensures.goes c.in-Gathered.is;
    }

pub returns-in_default-clause-err : goal.returns-in_default-clause-err
returns-in_default-clause-err c =
    let sites = c.args.sites.now in
    let i = c.loop-site.site-index in
    let at = slice_get_read sites (length sites) i c.site-item.result refl c.loop-site-test.true c.site-item.is in
    gathering_stops (parts_of c.args.self.now) (parts_of c.loop-site.self) (parts_of c.gather_allowed.new.self) c.args.tx
    sites c.requires.whole i c.site-item.result at c.gather_allowed.result c.loop-site.invariant.gathered c.gather_allowed.ensures.goes
    c.in_default.not-Gathered

pub returns-clause-ok : goal.returns-clause-ok
returns-clause-ok c =
    subst (λ xs. GoesOn (λ d e. GathersAll d c.args.tx xs e) (parts_of c.args.self.now) (parts_of c.loop-site.self))
    (take_all c.loop-site.site-index c.args.sites.now c.loop-site-test.false) c.loop-site.invariant.gathered
