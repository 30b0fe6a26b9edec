use Rattle.std.proofs.Common.{◌≡◌, ◌+◌, ◌++◌, ◌∷◌, [], List, Option, Some, sym, ◌∙◌, ap, subst}
use Rattle.sgt_notation.specs.declared.event.Event.TheVariants.{Begin}
use Rattle.sgt_core_model.specs.declared.reply.Reply.TheVariants.{Begun}
use Rattle.sgt_core_machine.specs.declared.machine.Running.{Running}
use Rattle.sgt_core_model.specs.Core.{CoreState}
use Rattle.sgt_core_model.specs.Step.{MayStep}
use Rattle.sgt_core_machine.specs.Machine.{parts_of, StandsFor}
use Rattle.sgt_core_machine.proofs.Standing.{none_of}
use Rattle.sgt_core_model.specs.declared.reply.CoreFault.TheVariants as core_fault
use Rattle.sgt_core_machine.proofs.Refusing.{refused_goes, some_open, untimely}
use Rattle.sgt_core_machine.proofs.Windows.{begin_goes, begun_parts}
use Rattle.sgt_core_machine.proofs.machine.Machine.begin.Goals as goal

pub returns : goal.returns
returns c = λ d s.
    let m = parts_of c.args.self.now in
    let none = none_of m.step (sym c.is_some.ensures ∙ c.if-is_some.false) in
    let r : Running = record { handle = c.in-Ok.begun.1; draft = c.empty_draft-draft.result } in
    let table : c.push_reserved.new.self.items ≡ m.table ++ Some r ∷ [] = c.push_reserved.ensures.items
    ∙ ap (λ z. z ++ Some r ∷ []) c.reserve.ensures.items in
    let g = begin_goes m d s none r c.begin.new.self c.in-Ok.begun.0 c.in-Ok.ensures.ok c.empty_draft-draft.ensures in
    subst (λ (t : List (Option Running)). (x : CoreState) × MayStep d Begin (Begun c.in-Ok.begun.0) x
    × StandsFor (record (begun_parts m c.begin.new.self r) { table = t }) x) (sym table) g

pub returns-then-is_some : goal.returns-then-is_some
returns-then-is_some c = λ d s.
    let m = parts_of c.args.self.now in
    refused_goes m d s Begin core_fault.StepOpen _ c.refused.ensures
    (untimely d Begin Rattle.std.proofs.Common.refl (some_open m d m.step (sym c.is_some.ensures
    ∙ c.if-is_some.true) s.step))
