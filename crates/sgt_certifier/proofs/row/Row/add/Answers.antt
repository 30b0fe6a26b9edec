use Rattle.std.proofs.Common.{refl, sym, subst, arith, length}
use Rattle.std.specs.Prelude.{IsSome}
use Rattle.std.proofs.lemmas.Bool.{true≢false}
use Rattle.std.proofs.lemmas.Option.{slice_get_read}
use Rattle.sgt_certifier.proofs.CountRows.{count-here, found_gap, more-found, more-others, more-rises}
use Rattle.sgt_certifier.proofs.row.Row.add.Goals as goal

pub unreachable-requires : goal.unreachable-requires
unreachable-requires c =
    let none = found_gap _ _ _ (rw c.as_slice.ensures.value at c.in-Err.ensures.absent) in
    true≢false (sym (subst IsSome none (rw (← c.self.view_is) at c.requires.place)))

pub overflow_add-counted : goal.overflow_add-counted
overflow_add-counted c =
    let found = rw c.as_slice.ensures.value at c.in-Ok.ensures.found in
    let here =
    slice_get_read _ (length c.self.inside.counts.items) _ _ refl found.within c.index_mut-counted.ensures.value in
    let same = count-here _ _ _ _ c.self.invariant found here in
    let small = rw (← c.self.view_is) at c.requires.small in
    omega (arith, same, small)

pub invariant_of-self : goal.invariant_of-self
invariant_of-self c =
    let found = rw c.as_slice.ensures.value at c.in-Ok.ensures.found in
    let here =
    slice_get_read _ (length c.self.inside.counts.items) _ _ refl found.within c.index_mut-counted.ensures.value in
    more-rises _ _ _ _ c.self.invariant found here

pub returns-clause-here : goal.returns-clause-here
returns-clause-here c =
    let found = rw c.as_slice.ensures.value at c.in-Ok.ensures.found in
    let here =
    slice_get_read _ (length c.self.inside.counts.items) _ _ refl found.within c.index_mut-counted.ensures.value in
    rw (← c.self.view_is) (more-found _ _ _ _ c.self.invariant found here)

pub returns-clause-others : goal.returns-clause-others
returns-clause-others c =
    let found = rw c.as_slice.ensures.value at c.in-Ok.ensures.found in
    let here =
    slice_get_read _ (length c.self.inside.counts.items) _ _ refl found.within c.index_mut-counted.ensures.value in
    rw (← c.self.view_is) (more-others _ _ _ _ c.self.invariant found here)
