use Rattle.std.proofs.Common.{refl}
use Rattle.sgt_notation.specs.declared.event.Event.TheVariants.{Read, Put, Add}
use Rattle.sgt_core_machine.specs.Machine.{parts_of}
use Rattle.sgt_core_machine.proofs.Redrafting.{slot_begun, slot_active}
use Rattle.sgt_core_machine.proofs.Finding.{not_true}
use Rattle.sgt_core_machine.proofs.Changing.{own_refuses}
use Rattle.sgt_core_machine.proofs.machine.Machine.unopened_slot.Goals as goal

pub returns-in-Err-clause-err : goal.returns-in-Err-clause-err
returns-in-Err-clause-err c = λ d s t x. (
  c.in-Err.ensures.err d s (Read c.args.tx t x) refl,
  λ v. c.in-Err.ensures.err d s (Put c.args.tx t x v) refl,
  λ v. c.in-Err.ensures.err d s (Add c.args.tx t x v) refl,
)

pub returns-then-owns_step-clause-err : goal.returns-then-owns_step-clause-err
returns-then-owns_step-clause-err c = λ d s t x.
    let m = parts_of c.args.self.now in
    let slot = c.in-Ok.ensures.ok in
    own_refuses d c.args.tx (slot_begun m d c.args.tx _ s slot) (slot_active m d c.args.tx _ s slot) t x
    ((c.owns_step.ensures d s).0 c.if-owns_step.true)

pub returns-clause-closed : goal.returns-clause-closed
returns-clause-closed c = λ d s own. not_true _ c.if-owns_step.false ((c.owns_step.ensures d s).1 own)
