use Rattle.std.proofs.Common.{◌≡◌, length, refl, sym, ◌∙◌, ap, arith, subst}
use Rattle.std.specs.Prelude.{slice_get}
use Rattle.std.proofs.lemmas.Option.{slice_get_within}
use Rattle.sgt_notation.specs.declared.event.Event.TheVariants.{Commit}
use Rattle.sgt_core_machine.specs.Machine.{parts_of}
use Rattle.sgt_core_machine.specs.private.Whole.{AreTouched}
use Rattle.sgt_core_machine.proofs.Standing.{none_of}
use Rattle.sgt_core_machine.proofs.Redrafting.{slot_begun, slot_active}
use Rattle.sgt_core_machine.proofs.Touching.{step_refused}
use Rattle.sgt_core_machine.proofs.Refusing.{some_open}
use Rattle.sgt_core_machine.proofs.TouchedSites.{few_sites, whole_allowed, whole_sites}
use Rattle.sgt_core_machine.proofs.WholeCommits.{whole_refused}
use Rattle.sgt_core_machine.proofs.machine.Machine.whole_sites.Goals as goal

pub returns-in-Err-clause-err : goal.returns-in-Err-clause-err
returns-in-Err-clause-err c =
    λ d s. whole_refused d c.args.tx c.in-Err.fault (c.in-Err.ensures.err d s (Commit c.args.tx) refl)

pub returns-then-is_some-clause-err : goal.returns-then-is_some-clause-err
returns-then-is_some-clause-err c = λ d s.
    let m = parts_of c.args.self.now in
    let slot = c.in-Ok.ensures.ok in
    step_refused d c.args.tx (slot_begun m d c.args.tx _ s slot) (slot_active m d c.args.tx _ s slot)
    (Commit c.args.tx) refl
    (some_open m d m.step (sym c.is_some.ensures ∙ c.if-is_some.true) s.step)

pub touched_sites-requires-clause-slot : goal.touched_sites-requires-clause-slot
touched_sites-requires-clause-slot c =
    let lt = slice_get_within c.args.self.now.running.items c.in-Ok.slot _ c.in-Ok.ensures.ok.1.1 in
    omega (arith, lt, ap length c.as_slice.ensures.value)

pub touched_sites-requires-clause-few : goal.touched_sites-requires-clause-few
touched_sites-requires-clause-few c =
    let s = c.requires in
    let few = few_sites (parts_of c.args.self.now) s.0 s.1 in
    omega (arith, few, c.len.ensures)

pub returns-in-Ok-touched_sites-clause-ok : goal.returns-in-Ok-touched_sites-clause-ok
returns-in-Ok-touched_sites-clause-ok c = λ d s.
    let m = parts_of c.args.self.now in
    let slot = c.in-Ok.ensures.ok in
    let runs = ap (λ t. slice_get t c.in-Ok.slot) c.as_slice.ensures.value ∙ slot.1.1 in
    let none = none_of m.step (sym c.is_some.ensures ∙ c.if-is_some.false) in
    let long : c.len.result ≡ length c.args.self.now.places.items =
    omega (arith, c.len.ensures, c.args.self.now.places.ok.0) in
    whole_sites m d s c.args.tx _ slot none c.touched_sites.new.sites.items
    (subst (λ n. AreTouched slot.1.0.draft.touched n c.touched_sites.new.sites.items) long
    (c.in-Ok-touched_sites.ensures _ runs))

pub returns-in-Err-touched_sites-clause-err : goal.returns-in-Err-touched_sites-clause-err
returns-in-Err-touched_sites-clause-err c = λ d s.
    let m = parts_of c.args.self.now in
    whole_allowed m d s c.args.tx _ c.in-Ok.ensures.ok (none_of m.step (sym c.is_some.ensures ∙ c.if-is_some.false))
