use Rattle.std.proofs.Common.{sym, ◌∙◌, arith, ap, subst}
use Rattle.std.specs.Prelude.{slice_get}
use Rattle.std.proofs.lemmas.Option.{slice_get_within}
use Rattle.sgt_certifier.specs.History.{IsAllowed, withdraw}
use Rattle.sgt_core_machine.proofs.Unrefused.{told_memory}
use Rattle.sgt_core_machine.proofs.machine.Machine.withdraw_at.Goals as goal

pub offer_at-requires-clause-may : goal.offer_at-requires-clause-may
offer_at-requires-clause-may c =
    λ t p r here runs. c.requires.may t p r here
    (sym (ap (λ ts. slice_get ts c.args.slot) c.as_slice-table.ensures.value) ∙ runs)

pub unreachable-requires-in_default : goal.unreachable-requires-in_default
unreachable-requires-in_default c =
    let o = c.in-Ok.ensures.ok in
    let runs = sym (ap (λ ts. slice_get ts c.args.slot) c.as_slice-table.ensures.value) ∙ o.there in
    let may = subst (λ h. IsAllowed c.args.self.now.certifier (withdraw h)) (sym o.handle_is)
    (c.requires.allowed o.running runs) in
    c.in_default.not-Memory
    (told_memory c.args.self.now.certifier (withdraw c.in-Ok.handle) may c.in-Err-withdraw.fault
    c.in-Err-withdraw.ensures.err.told)

pub index_mut-requires : goal.index_mut-requires
index_mut-requires c =
    let lt = slice_get_within c.args.self.now.running.items c.args.slot _ c.requires.slot.1 in
    omega (arith, lt, c.args.self.now.running.ok)
