use Rattle.std.proofs.Common.{List, Option, refl, sym, subst}
use Rattle.sgt_names.specs.Draft.{added_to}
use Rattle.sgt_names.specs.declared.entry.Change.{Change}
use Rattle.sgt_notation.specs.declared.event.Event.TheVariants.{Add}
use Rattle.sgt_core_machine.specs.declared.machine.Running.{Running}
use Rattle.sgt_core_model.specs.declared.reply.Reply.{Reply}
use Rattle.sgt_core_model.specs.declared.reply.Reply.TheVariants.{Kept}
use Rattle.sgt_core_model.specs.Core.{CoreState, change_in, with_change}
use Rattle.sgt_core_model.specs.Step.{MayStep}
use Rattle.sgt_core_machine.specs.Machine.{parts_of, StandsFor}
use Rattle.sgt_core_machine.proofs.Standing.{reached_more}
use Rattle.sgt_core_model.proofs.Total.{refused-answered}
use Rattle.sgt_core_machine.proofs.Redrafting.{slot_begun, slot_active}
use Rattle.sgt_core_machine.proofs.Changing.{add_allowed, changed_stands}
use Rattle.sgt_core_machine.proofs.machine.Machine.add.Goals as goal

pub returns-in-Err : goal.returns-in-Err
returns-in-Err c = λ d s.
    let event = Add c.args.tx c.args.site c.args.item c.args.value in
    let may = refused-answered d event c.in-Err.fault ((c.in-Err.ensures.err d s).2 c.args.value) in
    (d, subst (λ (r : Reply). MayStep d event r d) (sym c.refused.ensures) may, s)

pub returns-in-Ok-add_at : goal.returns-in-Ok-add_at
returns-in-Ok-add_at c = λ d s.
    let m = parts_of c.args.self.now in
    let event = Add c.args.tx c.args.site c.args.item c.args.value in
    let slot = c.in-Ok.ensures.ok in
    let closed = c.in-Ok.ensures.closed d s in
    let allowed = add_allowed d c.args.tx (slot_begun m d c.args.tx _ s slot) (slot_active m d c.args.tx _ s slot)
    c.args.site c.args.item c.args.value closed (c.in-Ok.ensures.known d s) in
    let ch : Option Change → Change = λ k. added_to k c.args.value in
    let new : CoreState =
    with_change d c.args.tx c.args.site c.args.item
    (ch (change_in (d.changes c.args.tx c.args.site) c.args.item)) in
    let may : MayStep d event Kept new = (allowed, refl) in (
      new,
      may,
      changed_stands m d s c.args.tx _ c.args.site c.args.item slot.0 closed ch c.add_at.new.table.items
          c.in-Ok-add_at.ensures.ok (reached_more d event Kept new s.reached may),
    )

pub returns-in-Err-add_at : goal.returns-in-Err-add_at
returns-in-Err-add_at c = λ d s.
    let m = parts_of c.args.self.now in
    let event = Add c.args.tx c.args.site c.args.item c.args.value in
    let slot = c.in-Ok.ensures.ok in
    let closed = c.in-Ok.ensures.closed d s in
    let allowed = add_allowed d c.args.tx (slot_begun m d c.args.tx _ s slot) (slot_active m d c.args.tx _ s slot)
    c.args.site c.args.item c.args.value closed (c.in-Ok.ensures.known d s) in (
      d,
      subst (λ (r : Reply). MayStep d event r d) (sym c.refused-in-Err-add_at.ensures) (allowed, refl),
      subst (λ (t : List (Option Running)). StandsFor (record m { table = t }) d) (sym c.in-Err-add_at.ensures.err) s,
    )
