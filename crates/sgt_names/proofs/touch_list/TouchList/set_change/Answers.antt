use Rattle.std.proofs.Common.{refl, arith, inl, inr, length}
use Rattle.std.proofs.lemmas.Bool.Decides.{nat_tests}
use Rattle.std.proofs.lemmas.Option.{slice_get_read}
use Rattle.sgt_names.proofs.Touched.{changes_change, adds_change, not_touched, tried, OnOk_then}
use Rattle.sgt_names.proofs.touch_list.TouchList.set_change.Goals as goal

pub returns-in-Ok-clause-ok : goal.returns-in-Ok-clause-ok
returns-in-Ok-clause-ok c =
    let found = rw c.as_slice.ensures.value at c.in-Ok.ensures.found in
    rw (← c.self.view_is) (changes_change c.self.inside.touched.items c.self.invariant.0 (
      c.args.site,
      c.args.item,
    ) c.in-Ok.at c.index_mut-touch.result.now _ found
    (slice_get_read _ (length c.self.inside.touched.items) _ _ refl found.within c.index_mut-touch.ensures.value))

pub invariant_of-self-in-Err : goal.invariant_of-self-in-Err
invariant_of-self-in-Err c =
    let gap = rw c.as_slice.ensures.value at c.in-Err.ensures.absent in
    tried _ _ c.insert_touch.result _ _ c.in-Err.at _ c.insert_touch.ensures.ok c.insert_touch.ensures.err gap
    (inr refl) c.self.invariant

pub returns-in-Err-clause-ok : goal.returns-in-Err-clause-ok
returns-in-Err-clause-ok c =
    let gap = rw c.as_slice.ensures.value at c.in-Err.ensures.absent in
    rw (← c.self.view_is) (OnOk_then c.insert_touch.result c.insert_touch.ensures.ok
    (λ is. rw is (adds_change c.self.inside.touched.items c.self.invariant.0 (
      c.args.site,
      c.args.item,
    ) c.in-Err.at _ gap)))

pub returns-in-Err-clause-succeeds : goal.returns-in-Err-clause-succeeds
returns-in-Err-clause-succeeds c = rw (← c.self.view_is) (λ room. elim room [
  | inl fits ↦ c.insert_touch.ensures.succeeds (grind (arith, nat_tests, fits))
  | inr touched ↦ absurd (not_touched _ _ _ (rw c.as_slice.ensures.value at c.in-Err.ensures.absent) touched)
])

pub returns-in-Err-clause-room : goal.returns-in-Err-clause-room
returns-in-Err-clause-room c =
    rw (← c.self.view_is)
    (λ touched. absurd (not_touched _ _ _ (rw c.as_slice.ensures.value at c.in-Err.ensures.absent) touched))

pub returns-in-Err-clause-same : goal.returns-in-Err-clause-same
returns-in-Err-clause-same c =
    rw (← c.self.view_is)
    (λ touched. absurd (not_touched _ _ _ (rw c.as_slice.ensures.value at c.in-Err.ensures.absent) touched))
