use Rattle.std.proofs.Common.{subst}
use Rattle.sgt_names.specs.Draft.{ChangesOnly}
use Rattle.sgt_names.specs.declared.draft.Touch.{Touch}
use Rattle.std.proofs.Common.{List}
use Rattle.sgt_names.proofs.Lists.{element_at}
use Rattle.sgt_names.proofs.Parts.{next_kept}
use Rattle.sgt_names.proofs.draft_parts.Parts.of.Goals as goal

pub loop-touch-preserved : goal.loop-touch-preserved
loop-touch-preserved c =
    let ts = c.args.touched.now in
    let k = c.loop-touch.touch-index in
    let at = element_at ts k c.touch-item.result c.loop-touch-test.true c.touch-item.is in
    next_kept ts c.keep.new.self.touched k c.touch-item.result c.requires.rising at
    (subst (λ (us : List Touch). ChangesOnly us c.keep.new.self.touched c.touch-item.result) c.loop-touch.invariant
    c.in_ok-keep.ensures.ok) c.parts-parts.ensures.rising
