use Rattle.std.proofs.Common.{take, drop, sym, subst, arith, List, Contains}
use Rattle.std.proofs.lemmas.List.{take_rest, take_all}
use Rattle.sgt_service_settle.specs.declared.deeds.Deed.{Deed as ADeed}
use Rattle.sgt_service_settle.specs.declared.link.Link.{Link as ALink}
use Rattle.sgt_service_settle.specs.private.Deeds.{IsSound}
use Rattle.sgt_service_settle.specs.private.Course.{IsCourse, Follows}
use Rattle.sgt_service_settle.specs.private.Joined.{AreDeedsCarried, ComesTo, LeadsTo}
use Rattle.sgt_service_settle.proofs.Following.{deeds_next}
use Rattle.sgt_service_settle.proofs.Joining.{follows_all, number_early, front_contains}
use Rattle.sgt_names.proofs.Elements.{contains-none}
use Rattle.sgt_names.proofs.Lists.{element_at, take_next}
use Rattle.sgt_service_settle.proofs.joined.follow_all.Goals as goal

pub loop-deed-init : goal.loop-deed-init
loop-deed-init c = record {
  under = c.requires.under;
  course = c.in_ok-restart.ensures;
  carried =
      λ d e has other precedes. absurd (contains-none d has);
}

pub loop-deed-preserved : goal.loop-deed-preserved
loop-deed-preserved c =
    let links = c.args.links.now in
    let order = c.args.deeds.now in
    let n = c.loop-deed.deed-index in
    let d : ADeed = c.deed-item.result in
    let here = element_at order n d c.loop-deed-test.true c.deed-item.is in
    let course = c.loop-deed.course in
    let inv = c.loop-deed.invariant in
    let start = c.first_since-start.result in
    let sound : (e : ADeed) → Contains (take n order) e
    → IsSound e = λ e has. c.requires.sound e (front_contains order n e has) in
    let early = λ (e : ADeed) (has : Contains (take n order) e). number_early order n d e c.requires.sorted here has in
    let follows : Follows (ComesTo (drop start links) d) (LeadsTo (drop start links) d) course d =
    subst (λ (ls : List ALink). Follows (ComesTo ls d) (LeadsTo ls d) course d) (take_rest links start)
    (c.in_ok-joined.ensures.follows c.if-not-joined.false) in
    let more = take_next order n d here in
    record {
      under = c.in_ok-joined.ensures.under;
      course = subst (λ xs. IsCourse xs c.join.new.course) (sym more)
          (c.in_ok-joined.ensures.course c.if-not-joined.false (take n order) inv.course);
      carried =
          subst (AreDeedsCarried links) (sym more) (deeds_next links (take n order) d course inv.course sound early
          (c.in_ok-joined.ensures.fits c.if-not-joined.false) (follows_all links start course d follows) inv.carried);
    }

pub returns-clause-carried : goal.returns-clause-carried
returns-clause-carried c = λ yes.
    let whole = take_all c.loop-deed.deed-index c.args.deeds.now (omega (arith, c.loop-deed-test.false)) in
    subst (AreDeedsCarried c.args.links.now) whole c.loop-deed.invariant.carried
