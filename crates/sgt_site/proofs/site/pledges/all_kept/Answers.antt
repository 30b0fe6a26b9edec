use mathlib.Core.Bool.{false≢true}
use Rattle.std.proofs.Common.{refl}
use Rattle.sgt_site.specs.private.Cells.{KeepsItem}
use Rattle.sgt_site.proofs.Changes.{all-pass, all-fail}
use Rattle.sgt_site.proofs.site.pledges.all_kept.Goals as goal

pub returns-then-not-keeps : goal.returns-then-not-keeps
returns-then-not-keeps c =
    all-fail (KeepsItem c.args.touched.now c.args.number) _ _ _ _ c.loop-item-test.true c.item-item.is
    (λ holds. false≢true (c.if-not-keeps.ensures.1 holds)) c.loop-item.invariant

pub loop-item-preserved : goal.loop-item-preserved
loop-item-preserved c =
    all-pass (KeepsItem c.args.touched.now c.args.number) _ _ _ _ c.loop-item-test.true c.item-item.is
    (c.if-not-keeps.ensures.0 refl) c.loop-item.invariant
