use Rattle.std.proofs.Common.{refl, sym, ◌∙◌, length}
use Rattle.std.proofs.lemmas.Option.{slice_get_read}
use Rattle.sgt_names.proofs.Parts.{at_found, at_gap}
use Rattle.sgt_names.proofs.draft_parts.Parts.at.Goals as goal

pub returns-in-Ok-clause-part : goal.returns-in-Ok-clause-part
returns-in-Ok-clause-part c =
    let found = rw c.as_slice.ensures.value at c.in-Ok.ensures.found in
    rw (← c.self.view_is) (c.touched.ensures.all
    ∙ sym (at_found c.self.inside.parts.items c.args.site c.in-Ok.at _ c.self.invariant.0 c.self.invariant.1 found
    (slice_get_read _ (length c.self.inside.parts.items) _ _ refl found.within c.index.ensures)))

pub returns-in-Err-clause-part : goal.returns-in-Err-clause-part
returns-in-Err-clause-part c =
    rw (← c.self.view_is)
    (sym (at_gap _ _ _ c.self.invariant.1 (rw c.as_slice.ensures.value at c.in-Err.ensures.absent)))
