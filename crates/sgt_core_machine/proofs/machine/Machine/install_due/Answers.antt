use Rattle.std.proofs.Common.{length, refl, sym, arith, ap, subst}
use Rattle.std.specs.Prelude.{Any}
use Rattle.std.proofs.lemmas.Option.{slice_get_within}
use Rattle.sgt_core_model.specs.declared.reply.Reply.TheVariants.{Installed}
use Rattle.sgt_core_model.specs.declared.reply.CoreFault.TheVariants as fault
use Rattle.sgt_core_machine.specs.Machine.{Parts, parts_of}
use Rattle.sgt_core_machine.proofs.Finding.{not_true}
use Rattle.sgt_core_machine.proofs.InstallEnds.{IsDueThere, another_left}
use Rattle.sgt_core_machine.proofs.Allowed.{install_place}
use Rattle.sgt_core_machine.proofs.Installs.{pledged, awaited, open_certifier, still_goes, last_goes}
use Rattle.sgt_core_machine.proofs.machine.Machine.install_due.Goals as goal
use Rattle.sgt_core_machine.proofs.machine.Machine.install_due.Goals.{then-is_another_due-via-then-is_another_due, then-is_another_due-via-else-is_another_due+then-is_due}

pub write-requires-clause-pledge : goal.write-requires-clause-pledge
write-requires-clause-pledge c =
    let m = parts_of c.args.self.now in
    let s = c.requires.stands in
    let may = c.requires.allowed s.0 s.1 in
    let p = install_place m s.0 s.1 c.args.tx c.args.slot c.requires.slot c.args.site may in
    pledged m s.0 s.1 c.args.tx c.args.slot c.requires.slot (may fault.StepOpen) c.args.site p.0 p.1 c.args.verdict
    (sym c.requires.verdict) p.2

pub write-requires-clause-awaits : goal.write-requires-clause-awaits
write-requires-clause-awaits c =
    let m = parts_of c.args.self.now in
    let s = c.requires.stands in
    let may = c.requires.allowed s.0 s.1 in
    let p = install_place m s.0 s.1 c.args.tx c.args.slot c.requires.slot c.args.site may in
    awaited m s.0 s.1 c.args.tx c.args.slot c.requires.slot (may fault.StepOpen) c.args.site p.0 p.1 c.args.verdict
    (sym c.requires.verdict) p.2

pub end_step-requires-clause-step : goal.end_step-requires-clause-step
end_step-requires-clause-step c =
    let m = parts_of c.args.self.now in
    let s = c.requires.stands in
    let may = c.requires.allowed s.0 s.1 in
    let p = install_place m s.0 s.1 c.args.tx c.args.slot c.requires.slot c.args.site may in
    open_certifier m s.0 s.1 c.args.tx c.args.slot c.requires.slot (may fault.StepOpen) c.args.site p.0 p.1
    c.args.verdict (sym c.requires.verdict) p.2 (parts_of c.write.new.self) c.write.ensures

pub end_step-requires-clause-slot : goal.end_step-requires-clause-slot
end_step-requires-clause-slot c =
    let lt = slice_get_within c.args.self.now.running.items c.args.slot _ c.requires.slot.1.1 in
    omega (arith, lt, ap (λ (v : Parts). length v.table) c.write.ensures.is)

pub returns-then-is_another_due-clause-goes : goal.returns-then-is_another_due-clause-goes
returns-then-is_another_due-clause-goes c = λ d s.
    let m = parts_of c.args.self.now in
    let n = parts_of c.write.new.self in
    let may = c.requires.allowed d s in
    let p = install_place m d s c.args.tx c.args.slot c.requires.slot c.args.site may in
    let some : Any IsDueThere n.places = elim c.then-is_another_due.branch [
      | then-is_another_due-via-then-is_another_due w ↦
          another_left c.args.verdict m n c.args.site c.args.slot c.args.tx c.write.ensures
          (c.requires.another w.if-is_another_due.true)
      | then-is_another_due-via-else-is_another_due+then-is_due w ↦
          subst (Any IsDueThere) w.as_slice.ensures.value (w.is_due.ensures.0 w.if-is_due.true)
    ] in
    still_goes m d s c.args.tx c.args.slot c.requires.slot (may fault.StepOpen) c.args.site p.0 p.1 c.args.verdict
    (sym c.requires.verdict) p.2 n c.write.ensures Installed some refl

pub returns-clause-goes : goal.returns-clause-goes
returns-clause-goes c = λ d s.
    let m = parts_of c.args.self.now in
    let n = parts_of c.write.new.self in
    let may = c.requires.allowed d s in
    let p = install_place m d s c.args.tx c.args.slot c.requires.slot c.args.site may in
    let none : Any IsDueThere n.places → ⊥ = λ some.
    not_true _ c.if-is_due.false (c.is_due.ensures.1 (subst (Any IsDueThere) (sym c.as_slice.ensures.value) some)) in
    last_goes m d s c.args.tx c.args.slot c.requires.slot (may fault.StepOpen) c.args.site p.0 p.1 c.args.verdict
    (sym c.requires.verdict) p.2 n c.write.ensures (parts_of c.end_step.new.self) c.end_step.ensures none Installed refl
