use mathlib.Core.Bool.{false≢true}
use Rattle.std.proofs.Common.{◌≡◌, refl}
use Rattle.std.specs.Prelude.{IsSome}
use Rattle.sgt_names.specs.declared.draft.Touch.{Touch}
use Rattle.sgt_site.specs.private.Cells.{HasItem}
use Rattle.sgt_site.proofs.Changes.{all-pass, all-fail}
use Rattle.sgt_site.proofs.site.pledges.changes_known.Goals as goal

pub returns-then-not-is_known : goal.returns-then-not-is_known
returns-then-not-is_known c = all-fail (λ (t : Touch). t.site ≡ c.args.number → IsSome t.change
    → HasItem c.args.cells.now t.item) _ _ _ _ c.loop-t-test.true c.t-item.is
    (λ holds. false≢true (c.if-not-is_known.ensures.1 holds)) c.loop-t.invariant

pub loop-t-preserved : goal.loop-t-preserved
loop-t-preserved c = all-pass (λ (t : Touch). t.site ≡ c.args.number → IsSome t.change
    → HasItem c.args.cells.now t.item) _ _ _ _ c.loop-t-test.true c.t-item.is (c.if-not-is_known.ensures.0 refl)
    c.loop-t.invariant
