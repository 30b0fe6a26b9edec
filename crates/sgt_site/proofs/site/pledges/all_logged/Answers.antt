use mathlib.Core.Bool.{false≢true}
use Rattle.std.proofs.Common.{◌≡◌, refl}
use Rattle.std.specs.Option.{ForSome}
use Rattle.sgt_names.specs.declared.draft.Touch.{Touch}
use Rattle.sgt_site.specs.private.Cells.{InCells}
use Rattle.sgt_site.proofs.Changes.{all-pass, all-fail}
use Rattle.sgt_site.proofs.site.pledges.all_logged.Goals as goal

pub returns-then-not-is_logged : goal.returns-then-not-is_logged
returns-then-not-is_logged c = all-fail (λ (t : Touch). t.site ≡ c.args.number
    → ForSome t.seen (InCells c.args.cells.now c.args.tx t.item)) _ _ _ _ c.loop-t-test.true c.t-item.is
    (λ holds. false≢true (c.if-not-is_logged.ensures.1 holds)) c.loop-t.invariant

pub loop-t-preserved : goal.loop-t-preserved
loop-t-preserved c = all-pass (λ (t : Touch). t.site ≡ c.args.number
    → ForSome t.seen (InCells c.args.cells.now c.args.tx t.item)) _ _ _ _ c.loop-t-test.true c.t-item.is
    (c.if-not-is_logged.ensures.0 refl) c.loop-t.invariant
