use Rattle.std.proofs.Common.{◌≡◌, List, Option, sym, ◌∙◌, ap, subst}
use Rattle.sgt_certifier.specs.Certifier.{State}
use Rattle.sgt_notation.specs.declared.event.Event.TheVariants.{Close}
use Rattle.sgt_core_model.specs.declared.reply.Reply.{Reply}
use Rattle.sgt_core_model.specs.declared.reply.Reply.TheVariants.{Closed, Fault}
use Rattle.sgt_core_machine.specs.declared.machine.Running.{Running}
use Rattle.sgt_core_model.specs.Core.{CoreState}
use Rattle.sgt_core_model.specs.Step.{MayStep}
use Rattle.sgt_core_machine.specs.Machine.{parts_of, StandsFor}
use Rattle.sgt_core_machine.proofs.Standing.{none_of}
use Rattle.sgt_core_model.specs.declared.reply.CoreFault.TheVariants as core_fault
use Rattle.sgt_core_machine.proofs.Refusing.{refused_goes, some_open, untimely}
use Rattle.sgt_core_machine.proofs.Windows.{close_goes, close_refused, closed_parts}
use Rattle.sgt_core_machine.proofs.machine.Machine.close.Goals as goal

pub returns-in-Ok : goal.returns-in-Ok
returns-in-Ok c = λ d s.
    let m = parts_of c.args.self.now in
    let none = none_of m.step (sym c.is_some.ensures ∙ c.if-is_some.false) in
    let g = close_goes m d s none c.close.new.self c.in-Ok.ranks c.in-Ok.ensures.ok in
    subst (λ (t : List (Option Running)). (x : CoreState) × MayStep d Close (Closed c.in-Ok.ranks) x
    × StandsFor (record (closed_parts m c.close.new.self) { table = t }) x) (sym c.clear.ensures.items) g

pub returns-in-Err : goal.returns-in-Err
returns-in-Err c = λ d s.
    let m = parts_of c.args.self.now in
    let none = none_of m.step (sym c.is_some.ensures ∙ c.if-is_some.false) in
    let may = close_refused m d c.in-Err.fault s none c.in-Err.ensures.err.told in
    let reply : c.refused-in-Err.result ≡ Fault _ = c.refused-in-Err.ensures ∙ ap Fault c.fault_of_close.ensures in (
      d,
      subst (λ (r : Reply). MayStep d Close r d) (sym reply) may,
      subst (λ (k : State). StandsFor (record m { certifier = k }) d) (sym c.in-Err.ensures.err.same) s,
    )

pub returns-then-is_some : goal.returns-then-is_some
returns-then-is_some c = λ d s.
    let m = parts_of c.args.self.now in
    refused_goes m d s Close core_fault.StepOpen _ c.refused.ensures
    (untimely d Close Rattle.std.proofs.Common.refl (some_open m d m.step (sym c.is_some.ensures
    ∙ c.if-is_some.true) s.step))
