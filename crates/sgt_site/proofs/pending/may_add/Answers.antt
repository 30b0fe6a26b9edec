use Rattle.std.proofs.Common.{◌≡◌, length, Some, None, refl, sym, inr}
use Rattle.std.specs.Prelude.{slice_get}
use Rattle.std.proofs.lemmas.Bool.{ltb-true}
use Rattle.std.proofs.lemmas.Option.{slice_get_past}
use Rattle.sgt_names.proofs.Lists.{element_at}
use Rattle.sgt_site.proofs.pending.may_add.Goals as goal

pub returns-in-Some-clause-may : goal.returns-in-Some-clause-may
returns-in-Some-clause-may c = λ hit.
    let slots = c.args.slots.now in
    let at = element_at slots c.args.at c.in-Some.slot.now
    (ltb-true c.args.at (length slots) (sym c.in-Some.ensures.lookup.0)) c.in-Some.ensures.lookup.1 in
    (c.in-Some.slot.now, at, c.may_hold.ensures.may hit)

pub returns-in-Some-clause-free : goal.returns-in-Some-clause-free
returns-in-Some-clause-free c =
    let slots = c.args.slots.now in
    let at : slice_get slots c.args.at ≡ Some c.in-Some.slot.now =
    element_at slots c.args.at c.in-Some.slot.now
    (ltb-true c.args.at (length slots) (sym c.in-Some.ensures.lookup.0)) c.in-Some.ensures.lookup.1 in
    rw at c.may_hold.ensures.free

pub returns-in-Some-clause-not : goal.returns-in-Some-clause-not
returns-in-Some-clause-not c =
    let slots = c.args.slots.now in
    let at : slice_get slots c.args.at ≡ Some c.in-Some.slot.now =
    element_at slots c.args.at c.in-Some.slot.now
    (ltb-true c.args.at (length slots) (sym c.in-Some.ensures.lookup.0)) c.in-Some.ensures.lookup.1 in
    rw at c.may_hold.ensures.not

pub returns-in-None-clause-not : goal.returns-in-None-clause-not
returns-in-None-clause-not c =
    let past : slice_get c.args.slots.now c.args.at ≡ None =
    slice_get_past c.args.slots.now c.args.at c.in-None.ensures.lookup.3 in
    inr (rw past refl)
