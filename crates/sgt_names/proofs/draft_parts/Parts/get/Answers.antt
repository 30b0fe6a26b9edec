use Rattle.std.proofs.Common.{sym, ◌∙◌}
use Rattle.sgt_names.proofs.Parts.{at_part, touched_no_part}
use Rattle.sgt_names.proofs.draft_parts.Parts.get.Goals as goal

pub returns-in-Ok : goal.returns-in-Ok
returns-in-Ok c =
    let found = rw c.as_slice.ensures.value at c.in-Ok.ensures.found in
    rw (← c.self.view_is) (c.get.ensures
    ∙ at_part c.self.inside.parts.items (c.args.site, c.args.item) c.in-Ok.at _ c.self.invariant.0
    c.self.invariant.1 found c.index.ensures)

pub returns-in-Err : goal.returns-in-Err
returns-in-Err c =
    let gap = rw c.as_slice.ensures.value at c.in-Err.ensures.absent in
    rw (← c.self.view_is)
    (sym (touched_no_part c.self.inside.parts.items (c.args.site, c.args.item) _ c.self.invariant.1 gap))
