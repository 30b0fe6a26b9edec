use Rattle.std.proofs.Common.{refl, ap, subst, sym, AllPairs}
use Rattle.sgt_names.specs.Log.{names}
use Rattle.sgt_bundle.specs.Parts.{ComesBefore}
use Rattle.sgt_bundle.proofs.Rising.{rise-more, rise-not, rise-end}
use Rattle.sgt_bundle.proofs.fits.rise.Goals as goal

pub loop-holding-init : goal.loop-holding-init
loop-holding-init c = let e = ap names c.in-Some.ensures.cases.0 in
    (λ h. subst (AllPairs ComesBefore) (sym e) h, λ h. subst (AllPairs ComesBefore) e h)

pub returns-then-not-comes_before : goal.returns-then-not-comes_before
returns-then-not-comes_before c = (
  λ f. cc,
  λ h. absurd (rise-not (names c.args.items.now) c.loop-holding.last c.in-Some.later.now
      c.loop-holding.holding-index c.holding-item.result c.loop-holding-test.true c.holding-item.is (λ p. let t =
      c.comes_before.ensures.1 p in let f = c.if-not-comes_before.true in cc) c.loop-holding.invariant h),
)

pub loop-holding-preserved : goal.loop-holding-preserved
loop-holding-preserved c =
    rise-more (names c.args.items.now) c.loop-holding.last c.in-Some.later.now c.loop-holding.holding-index
    c.holding-item.result c.loop-holding-test.true c.holding-item.is
    (c.comes_before.ensures.0 c.if-not-comes_before.false) c.loop-holding.invariant

pub returns : goal.returns
returns c = (
  λ _. rise-end (names c.args.items.now) c.loop-holding.last c.in-Some.later.now c.loop-holding.holding-index
      c.loop-holding-test.false c.loop-holding.invariant,
  λ _. refl,
)
