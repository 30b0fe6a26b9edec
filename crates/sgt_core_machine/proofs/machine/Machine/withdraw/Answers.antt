use Rattle.std.proofs.Common.{◌≡◌, refl, sym, ◌∙◌, subst, Some, None}
use Rattle.sgt_notation.specs.declared.event.Event.TheVariants.{Withdraw}
use Rattle.sgt_core_model.specs.declared.reply.Reply.{Reply}
use Rattle.sgt_core_model.specs.Core.{CoreState}
use Rattle.sgt_core_model.specs.Step.{MayStep}
use Rattle.sgt_core_machine.specs.Machine.{Parts, parts_of, StandsFor}
use Rattle.sgt_core_machine.proofs.Standing.{none_of, certifier_closed}
use Rattle.sgt_core_machine.proofs.Refusing.{refused_goes, step_open, some_open}
use Rattle.sgt_core_machine.proofs.Unrefused.{may_pledge, closed_pledge, may_withdraw_at}
use Rattle.sgt_core_machine.proofs.Withdrawals.{withdraw_gives_back, withdraw_goes}
use Rattle.sgt_core_machine.proofs.machine.Machine.withdraw.Goals as goal

pub returns-in-Err : goal.returns-in-Err
returns-in-Err c = λ d s. let event = Withdraw c.args.tx in
    refused_goes (parts_of c.args.self.now) d s event c.in-Err.fault _ c.refused.ensures
    (c.in-Err.ensures.err d s event refl)

pub returns-then-is_some : goal.returns-then-is_some
returns-then-is_some c = λ d s.
    let m = parts_of c.args.self.now in
    step_open m d s c.args.tx _ c.in-Ok.ensures.ok (Withdraw c.args.tx) refl
    (some_open m d m.step (sym c.is_some.ensures ∙ c.if-is_some.true) s.step) _ c.refused-then-is_some.ensures

pub returns-in-Ok-withdraw_at : goal.returns-in-Ok-withdraw_at
returns-in-Ok-withdraw_at c = λ d s.
    let m = parts_of c.args.self.now in
    let none = none_of m.step (sym c.is_some.ensures ∙ c.if-is_some.false) in
    withdraw_goes m d s none c.args.tx _ c.in-Ok.ensures.ok (parts_of c.withdraw_at.new.self)
    c.in-Ok-withdraw_at.ensures.ok

pub returns-in-Err-withdraw_at : goal.returns-in-Err-withdraw_at
returns-in-Err-withdraw_at c = λ d s.
    let m = parts_of c.args.self.now in
    let none = none_of m.step (sym c.is_some.ensures ∙ c.if-is_some.false) in
    let mid = parts_of c.withdraw_at.new.self in
    let places = c.release_all.new.places.items in
    let goes =
    withdraw_gives_back m d s none c.args.tx _ c.in-Ok.ensures.ok mid.places places
    c.in-Err-withdraw_at.ensures.offered c.release_all.ensures in
    subst (λ (q : Reply). (e : CoreState) × MayStep d (Withdraw c.args.tx) q e
    × StandsFor (record mid { places = places }) e) (sym c.refused-in-Err-withdraw_at.ensures)
    (subst (λ (v : Parts). (e : CoreState)
    × MayStep d (Withdraw c.args.tx)
    (Rattle.sgt_core_model.specs.declared.reply.Reply.TheVariants.Fault
    Rattle.sgt_core_model.specs.declared.reply.CoreFault.TheVariants.Memory) e
    × StandsFor (record v { places = places }) e) (sym c.in-Err-withdraw_at.ensures.rest) goes)

pub withdraw_at-requires-clause-may : goal.withdraw_at-requires-clause-may
withdraw_at-requires-clause-may c = λ t p r here runs.
    let m = parts_of c.args.self.now in
    let s = c.requires in
    let none = none_of m.step (sym c.is_some.ensures ∙ c.if-is_some.false) in
    may_pledge m s.0 s.1 c.args.tx c.in-Ok.slot c.in-Ok.ensures.ok.0 t p r here runs
    (λ mine. let e : Some c.args.tx ≡ None = sym mine ∙ certifier_closed m s.0 s.1 none in
    cc) (closed_pledge m s.0 t p p.part none (s.1.places t p here).part)

pub withdraw_at-requires-clause-allowed : goal.withdraw_at-requires-clause-allowed
withdraw_at-requires-clause-allowed c =
    let m = parts_of c.args.self.now in
    let s = c.requires in
    may_withdraw_at m s.0 s.1 (none_of m.step (sym c.is_some.ensures ∙ c.if-is_some.false)) c.in-Ok.slot
