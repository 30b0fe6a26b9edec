use Rattle.std.proofs.Common.{◌++◌, ◌∷◌, [], List, length, take, refl, sym, arith, subst}
use Rattle.std.proofs.lemmas.List.{take_all}
use Rattle.std.proofs.lemmas.Option.{slice_get_read}
use Rattle.sgt_names.proofs.Lists.{take_next}
use Rattle.sgt_notation.specs.declared.event.Event.{Event}
use Rattle.sgt_core_model.specs.declared.reply.Reply.{Reply}
use Rattle.sgt_core_model.specs.Step.{Run}
use Rattle.sgt_core_machine.specs.Machine.{GoesOn}
use Rattle.sgt_core_machine.proofs.Opening.{run_on}
use Rattle.sgt_core_machine.proofs.driver.Core.run.Goals as goal

pub loop-event-preserved : goal.loop-event-preserved
loop-event-preserved c =
    let events = c.args.events.now in
    let i = c.loop-event.event-index in
    let at = slice_get_read events (length events) i c.event-item.result refl c.loop-event-test.true c.event-item.is in
    let on = run_on c.args.self.now c.loop-event.self c.step.new.self (take i events) c.loop-event.replies.items
    c.event-item.result c.step.result c.loop-event.invariant.run c.step.ensures in
    record {
      run = subst (λ (es : List Event). GoesOn (λ c' d. Run c' es c.push_reserved.new.self.items d) c.args.self.now
          c.step.new.self) (sym (take_next events i c.event-item.result at))
          (subst (λ (rs : List Reply). GoesOn (λ c' d. Run c' (take i events ++ c.event-item.result ∷ []) rs d)
          c.args.self.now c.step.new.self) (sym c.push_reserved.ensures.items) on);
      room = omega (arith, c.loop-event.invariant.room, c.push_reserved.ensures.len, c.push_reserved.ensures.capacity);
    }

pub returns-clause-run : goal.returns-clause-run
returns-clause-run c =
    subst (λ (es : List Event). GoesOn (λ c' d. Run c' es c.loop-event.replies.items d) c.args.self.now
    c.loop-event.self) (take_all c.loop-event.event-index c.args.events.now c.loop-event-test.false)
    c.loop-event.invariant.run
