use Rattle.sgt_names.proofs.Parts.{touches_by}
use Rattle.sgt_names.proofs.draft_parts.Parts.touches.Goals as goal

pub returns : goal.returns
returns c =
    rw (c.is_ok.ensures.value, ← c.self.view_is)
    (touches_by c.self.inside.parts.items c.args.site c.find.result c.self.invariant.1
    (rw c.as_slice.ensures.value at c.find.ensures.found) (rw c.as_slice.ensures.value at c.find.ensures.absent))
