use Rattle.std.proofs.Common.{◌≡◌, refl, sym, ◌∙◌, arith, subst, ap, Some, None}
use Rattle.std.specs.Prelude.{slice_get}
use Rattle.sgt_notation.specs.declared.event.Event.TheVariants.{Gather}
use Rattle.sgt_core_model.specs.declared.reply.Reply.TheVariants.{Gathered}
use Rattle.sgt_core_model.specs.declared.reply.CoreFault.TheVariants as fault
use Rattle.sgt_core_machine.specs.Machine.{Parts, parts_of}
use Rattle.sgt_core_machine.specs.Gathered.{GathersAt}
use Rattle.sgt_core_model.proofs.Runs.{gather_idle}
use Rattle.sgt_core_machine.proofs.Standing.{reached_kept}
use Rattle.sgt_core_machine.proofs.Allowed.{gather_within, gather_idle_part, gather_touched}
use Rattle.sgt_core_machine.proofs.Redrafting.{same_slot}
use Rattle.sgt_core_machine.proofs.Stepping.{same_draft, gather_goes, gives_up, only_step}
use Rattle.sgt_core_machine.proofs.Unrefused.{may_pledge, idle_pledge}
use Rattle.sgt_core_machine.proofs.machine.Machine.gather_allowed.Goals as goal

pub gather_at-requires-clause-site : goal.gather_at-requires-clause-site
gather_at-requires-clause-site c =
    let s = c.requires.stands in
    let lt = gather_within (parts_of c.args.self.now) s.0 s.1 c.args.tx c.args.slot c.requires.slot c.args.site
    (c.requires.allowed s.0 s.1) in
    omega (arith, lt)

pub gather_at-requires-clause-may : goal.gather_at-requires-clause-may
gather_at-requires-clause-may c = λ p r here runs.
    let s = c.requires.stands in
    let m = parts_of c.args.self.now in
    let h = c.requires.slot in
    let may = c.requires.allowed s.0 s.1 in
    let same : c.number.result ≡ c.args.site = omega arith in
    let idle = gather_idle_part m s.0 s.1 c.args.tx c.args.slot h c.args.site may p (ap (slice_get m.places) (sym same)
    ∙ here) in
    let undecided = gather_idle s.0 c.args.tx c.args.site (reached_kept s.0 s.1.reached) may in
    may_pledge m s.0 s.1 c.args.tx c.args.slot h.0 c.number.result p r here runs
    (λ mine. let e : Some c.args.tx ≡ None = sym mine ∙ undecided in cc)
    (idle_pledge m s.0 c.number.result p p.part (s.1.places _ p here).part idle)

pub returns-in-Ok-clause-goes : goal.returns-in-Ok-clause-goes
returns-in-Ok-clause-goes c = λ d s.
    let m = parts_of c.args.self.now in
    let h = c.requires.slot in
    let may = c.requires.allowed d s in
    let same : c.number.result ≡ c.args.site = omega arith in
    let g : GathersAt m (parts_of c.gather_at.new.self) c.args.tx c.args.slot c.args.site =
    subst (GathersAt m (parts_of c.gather_at.new.self) c.args.tx c.args.slot) same c.in-Ok.ensures.ok in
    let any = gather_touched m d s c.args.tx c.args.slot h c.args.site may in
    gather_goes m d s c.args.tx c.args.slot h.0 (may fault.StepOpen) c.args.site (parts_of c.gather_at.new.self) g may
    (same_draft m.table c.args.slot _ g.pledge.running c.args.site h.1.1 g.pledge.runs any) Gathered refl

pub returns-in-Ok-clause-slot : goal.returns-in-Ok-clause-slot
returns-in-Ok-clause-slot c =
    same_slot (parts_of c.args.self.now) (parts_of c.gather_at.new.self) c.args.tx c.args.slot c.requires.slot
    (ap (λ (v : Parts). v.before) c.in-Ok.ensures.ok.is) (ap (λ (v : Parts). v.table) c.in-Ok.ensures.ok.is)

pub returns-in-Err-clause-goes : goal.returns-in-Err-clause-goes
returns-in-Err-clause-goes c = λ d s.
    let m = parts_of c.args.self.now in
    let may = c.requires.allowed d s in
    let same = only_step m (parts_of c.gather_at.new.self) c.in-Err.ensures.err in
    gives_up m d s c.args.tx (may fault.StepOpen)
    (gather_idle d c.args.tx c.args.site (reached_kept d s.reached) may) (parts_of c.gather_at.new.self)
    (parts_of c.give_up.new.self) same.0 same.1 c.give_up.ensures.places c.give_up.ensures.rest
    (Gather c.args.tx c.args.site) _ c.refused.ensures (may, refl)

pub returns-in-Err-clause-slot : goal.returns-in-Err-clause-slot
returns-in-Err-clause-slot c =
    let rest = c.give_up.ensures.rest in
    let err = c.in-Err.ensures.err in
    same_slot (parts_of c.args.self.now) (parts_of c.give_up.new.self) c.args.tx c.args.slot c.requires.slot
    (ap (λ (v : Parts). v.before) rest ∙ ap (λ (v : Parts). v.before) err)
    (ap (λ (v : Parts). v.table) rest ∙ ap (λ (v : Parts). v.table) err)
