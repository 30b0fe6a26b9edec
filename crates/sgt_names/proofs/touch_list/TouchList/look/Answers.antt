use Rattle.std.proofs.Common.{sym, ◌∙◌}
use Rattle.sgt_names.proofs.Touched.{look_found, look_none}
use Rattle.sgt_names.proofs.touch_list.TouchList.look.Goals as goal

pub returns-in-Ok : goal.returns-in-Ok
returns-in-Ok c =
    rw (← c.self.view_is) (c.look_at.ensures
    ∙ sym (look_found _ _ _ _ c.self.invariant.0 (rw c.as_slice.ensures.value at c.in-Ok.ensures.found)
    c.index.ensures))

pub returns-in-Err : goal.returns-in-Err
returns-in-Err c =
    rw (← c.self.view_is) (sym (look_none _ _ _ (rw c.as_slice.ensures.value at c.in-Err.ensures.absent)))
