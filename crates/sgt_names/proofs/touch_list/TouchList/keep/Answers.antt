use Rattle.std.proofs.Common.{arith, inl, inr}
use Rattle.std.proofs.lemmas.Bool.Decides.{nat_tests}
use Rattle.sgt_names.proofs.Touched.{changes_set, not_touched, tried}
use Rattle.sgt_names.proofs.touch_list.TouchList.keep.Goals as goal

pub returns-in-Ok-clause-ok : goal.returns-in-Ok-clause-ok
returns-in-Ok-clause-ok c =
    let found = rw c.as_slice.ensures.value at c.in-Ok.ensures.found in
    rw (← c.self.view_is) (changes_set c.self.inside.touched.items c.in-Ok.at c.args.touch found)

pub invariant_of-self-in-Err : goal.invariant_of-self-in-Err
invariant_of-self-in-Err c =
    let gap = rw c.as_slice.ensures.value at c.in-Err.ensures.absent in
    tried _ _ c.insert_touch.result _ _ c.in-Err.at _ c.insert_touch.ensures.ok c.insert_touch.ensures.err gap
    c.requires c.self.invariant

pub returns-in-Err-clause-succeeds : goal.returns-in-Err-clause-succeeds
returns-in-Err-clause-succeeds c = rw (← c.self.view_is) (λ room. elim room [
  | inl fits ↦ c.insert_touch.ensures.succeeds (grind (arith, nat_tests, fits))
  | inr touched ↦ absurd (not_touched _ _ _ (rw c.as_slice.ensures.value at c.in-Err.ensures.absent) touched)
])

pub returns-in-Err-clause-room : goal.returns-in-Err-clause-room
returns-in-Err-clause-room c =
    rw (← c.self.view_is)
    (λ touched. absurd (not_touched _ _ _ (rw c.as_slice.ensures.value at c.in-Err.ensures.absent) touched))
