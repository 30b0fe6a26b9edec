use Rattle.std.proofs.Common.{◌≡◌, List, Option, Some, None, length, refl, sym, ◌∙◌, arith, subst, ap, inl, inr}
use Rattle.std.specs.Prelude.{slice_get, true, option_and_then}
use Rattle.std.proofs.lemmas.Option.{slice_get_within}
use Rattle.sgt_names.specs.Draft.{look_of, touched_at}
use Rattle.sgt_notation.specs.declared.event.Event.TheVariants.{Read}
use Rattle.sgt_core_model.specs.declared.reply.Reply.{Reply}
use Rattle.sgt_core_model.specs.declared.reply.CoreFault.TheVariants as fault
use Rattle.sgt_core_machine.specs.declared.machine.Running.{Running}
use Rattle.sgt_core_machine.specs.declared.machine.Place.{Place}
use Rattle.sgt_core_model.specs.Core.{CoreState}
use Rattle.sgt_core_model.specs.Step.{MayStep}
use Rattle.sgt_core_machine.specs.Machine.{parts_of, StandsFor, HasRoomAt}
use Rattle.sgt_core_machine.specs.private.Looked.{IsFound}
use Rattle.sgt_core_machine.proofs.Refusing.{refused_goes}
use Rattle.sgt_core_machine.proofs.Finding.{err_of, ok_by}
use Rattle.sgt_core_machine.proofs.Known.{look_known, found_none, at_of, of_at, why_as, why_goes, why_roomy}
use Rattle.sgt_core_machine.proofs.Reading.{found_goes, unseen_there, read_goes, read_plain, must_find}
use Rattle.sgt_core_machine.proofs.Unrefused.{may_read}
use Rattle.sgt_names.proofs.Elements.{get-slice_set_same}
use Rattle.sgt_core_machine.proofs.machine.Machine.read.Goals as goal

pub returns-in-Err : goal.returns-in-Err
returns-in-Err c = λ d s. refused_goes (parts_of c.args.self.now) d s (Read c.args.tx c.args.site c.args.item)
    c.in-Err.fault _ c.refused.ensures (c.in-Err.ensures.err d s c.args.site c.args.item).0

pub find_at-found-requires : goal.find_at-found-requires
find_at-found-requires c =
    let lt = slice_get_within c.args.self.now.running.items c.in-Ok.slot _ c.in-Ok.ensures.ok.1.1 in
    omega (arith, lt, ap length c.as_slice.ensures.value)

pub returns-in-Value : goal.returns-in-Value
returns-in-Value c = λ d s.
    let m = parts_of c.args.self.now in
    let h = c.in-Ok.ensures.ok in
    let at = ap (λ t. slice_get t c.in-Ok.slot) c.as_slice.ensures.value ∙ h.1.1 in
    let found =
    sym (subst (IsFound h.1.0.draft.touched (c.args.site, c.args.item)) c.in-Value.is (c.find_at-found.ensures _ at)) in
    found_goes m d s c.args.tx _ c.args.site c.args.item h (c.in-Ok.ensures.closed d s)
    (look_known m d s c.in-Ok.slot c.args.site c.args.item h.1.0 h.1.1 c.in-Value.value found) c.in-Value.value found

pub returns-then-is_err : goal.returns-then-is_err
returns-then-is_err c = λ d s.
    let m = parts_of c.args.self.now in
    let h = c.in-Ok.ensures.ok in
    let at = ap (λ t. slice_get t c.in-Ok.slot) c.as_slice.ensures.value ∙ h.1.1 in
    let none = sym (found_none _ _ c.in_default.not-Value (c.find_at-found.ensures _ at)) in
    let same = err_of c.room_at.result (sym c.is_err.ensures.value ∙ c.if-is_err.true) c.room_at.ensures.err in
    let now = subst (λ (t : List (Option Running)). StandsFor (record m { table = t }) d) (sym same) s in
    let g = why_goes m d s c.args.tx _ c.args.site c.args.item h (c.in-Ok.ensures.closed d s) none c.unread.result
    (c.unread.ensures d now) in
    subst (λ (t : List (Option Running)). (x : CoreState)
    × MayStep d (Read c.args.tx c.args.site c.args.item) c.refused-then-is_err.result x
    × StandsFor (record m { table = t }) x) (sym same)
    (subst (λ (r : Reply). (x : CoreState) × MayStep d (Read c.args.tx c.args.site c.args.item) r x × StandsFor m x)
    (sym c.refused-then-is_err.ensures) g)

pub read_at-requires : goal.read_at-requires
read_at-requires c = λ p here known.
    let s = c.requires in
    let m = parts_of c.args.self.now in
    let h = c.in-Ok.ensures.ok in
    let at = ap (λ t. slice_get t c.in-Ok.slot) c.as_slice.ensures.value ∙ h.1.1 in
    let none = found_none _ _ c.in_default.not-Value (c.find_at-found.ensures _ at) in
    may_read m s.0 s.1 c.args.tx c.in-Ok.slot h.0 c.args.site p h.1.0 here h.1.1
    (c.in-Ok.ensures.closed s.0 s.1) c.args.item (at_of m s.0 c.args.site c.args.item s.1 (p, here, known)) none

pub returns-in-Err-read_at : goal.returns-in-Err-read_at
returns-in-Err-read_at c = λ d s.
    let m = parts_of c.args.self.now in
    let h = c.in-Ok.ensures.ok in
    let at = ap (λ t. slice_get t c.in-Ok.slot) c.as_slice.ensures.value ∙ h.1.1 in
    let none = sym (found_none _ _ c.in_default.not-Value (c.find_at-found.ensures _ at)) in
    let room = ok_by c.room_at.result (sym c.is_err.ensures.value ∙ c.if-is_err.false) c.room_at.ensures.ok in
    let why = why_as _ _ _ (at_of m d c.args.site c.args.item s) (of_at m d c.args.site c.args.item s)
    c.in-Err-read_at.ensures.why in
    let g = why_roomy m d s c.args.tx _ c.args.site c.args.item h (c.in-Ok.ensures.closed d s) none
    c.room_at.new.table.items room c.in-Err-read_at.fault why in
    subst (λ (ps : List Place). (x : CoreState)
    × MayStep d (Read c.args.tx c.args.site c.args.item) c.refused-in-Err-read_at.result x
    × StandsFor (record m { places = ps; table = c.room_at.new.table.items }) x) (sym c.in-Err-read_at.ensures.err)
    (subst (λ (r : Reply). (x : CoreState) × MayStep d (Read c.args.tx c.args.site c.args.item) r x
    × StandsFor (record m { table = c.room_at.new.table.items }) x) (sym c.refused-in-Err-read_at.ensures) g)

pub keep_at-requires : goal.keep_at-requires
keep_at-requires c =
    let s = c.requires in
    let m = parts_of c.args.self.now in
    let h = c.in-Ok.ensures.ok in
    let at = ap (λ t. slice_get t c.in-Ok.slot) c.as_slice.ensures.value ∙ h.1.1 in
    let none = sym (found_none _ _ c.in_default.not-Value (c.find_at-found.ensures _ at)) in
    let room : HasRoomAt m.table c.room_at.new.table.items c.in-Ok.slot =
    ok_by c.room_at.result (sym c.is_err.ensures.value ∙ c.if-is_err.false) c.room_at.ensures.ok in
    let q : Running =
    record room.before { draft = record { touched = room.before.draft.touched; has_room = true } } in (
      q,
      ap (λ ts. slice_get ts c.in-Ok.slot) room.is
          ∙ get-slice_set_same m.table c.in-Ok.slot (Some q) (slice_get_within m.table c.in-Ok.slot _ room.was),
      refl,
      unseen_there m s.0 s.1 c.args.tx _ c.args.site c.args.item h (c.in-Ok.ensures.closed s.0 s.1)
          (at_of m s.0 c.args.site c.args.item s.1 c.in-Ok-read_at.ensures.known) none c.room_at.new.table.items room,
    )

pub returns-in-Nothing : goal.returns-in-Nothing
returns-in-Nothing c = λ d s.
    let m = parts_of c.args.self.now in
    let h = c.in-Ok.ensures.ok in
    let at = ap (λ t. slice_get t c.in-Ok.slot) c.as_slice.ensures.value ∙ h.1.1 in
    let none = sym (found_none _ _ c.in_default.not-Value (c.find_at-found.ensures _ at)) in
    let nothing =
    subst (IsFound h.1.0.draft.touched (c.args.site, c.args.item)) c.in-Nothing.is (c.find_at-found.ensures _ at) in
    let known = at_of m d c.args.site c.args.item s c.in-Ok-read_at.ensures.known in
    let room = ok_by c.room_at.result (sym c.is_err.ensures.value ∙ c.if-is_err.false) c.room_at.ensures.ok in
    read_goes m d s c.args.tx _ c.args.site c.args.item h (c.in-Ok.ensures.closed d s) known
    none c.room_at.new.table.items room c.in-Ok-read_at.seen c.read_at.new.places.items c.in-Ok-read_at.ensures.ok
    c.keep_at.new.table.items c.keep_at.ensures c.in-Ok-read_at.seen.value
    (read_plain m d s c.args.tx _ c.args.site c.args.item h (c.in-Ok.ensures.closed d s) known
    none c.room_at.new.table.items room c.in-Ok-read_at.seen c.read_at.new.places.items c.in-Ok-read_at.ensures.ok
    c.keep_at.new.table.items c.keep_at.ensures nothing)

pub find_at-requires : goal.find_at-requires
find_at-requires c =
    let lt = slice_get_within c.keep_at.new.table.items c.in-Ok.slot _
    (ap (λ ts. slice_get ts c.in-Ok.slot) c.keep_at.ensures.is
    ∙ get-slice_set_same c.room_at.new.table.items c.in-Ok.slot (Some c.keep_at.ensures.after)
    (slice_get_within c.room_at.new.table.items c.in-Ok.slot _ c.keep_at.ensures.was)) in
    omega (arith, lt, ap length c.as_slice-2.ensures.value)

pub returns : goal.returns
returns c = λ d s.
    let m = parts_of c.args.self.now in
    let h = c.in-Ok.ensures.ok in
    let at = ap (λ t. slice_get t c.in-Ok.slot) c.as_slice.ensures.value ∙ h.1.1 in
    let none = sym (found_none _ _ c.in_default.not-Value (c.find_at-found.ensures _ at)) in
    let known = at_of m d c.args.site c.args.item s c.in-Ok-read_at.ensures.known in
    let room = ok_by c.room_at.result (sym c.is_err.ensures.value ∙ c.if-is_err.false) c.room_at.ensures.ok in
    let after = ap (λ ts. slice_get ts c.in-Ok.slot) c.keep_at.ensures.is
    ∙ get-slice_set_same c.room_at.new.table.items c.in-Ok.slot (Some c.keep_at.ensures.after)
    (slice_get_within c.room_at.new.table.items c.in-Ok.slot _ c.keep_at.ensures.was) in
    let at_last = ap (λ t. slice_get t c.in-Ok.slot) c.as_slice-2.ensures.value ∙ after in
    let found = sym (subst (IsFound c.keep_at.ensures.after.draft.touched (c.args.site, c.args.item))
    c.in-Value-find_at.is (c.find_at.ensures _ at_last)) in
    read_goes m d s c.args.tx _ c.args.site c.args.item h (c.in-Ok.ensures.closed d s) known
    none c.room_at.new.table.items room c.in-Ok-read_at.seen c.read_at.new.places.items c.in-Ok-read_at.ensures.ok
    c.keep_at.new.table.items c.keep_at.ensures c.in-Value-find_at.value found

pub unreachable-requires : goal.unreachable-requires
unreachable-requires c =
    let d = c.requires.0 in
    let s = c.requires.1 in
    let m = parts_of c.args.self.now in
    let h = c.in-Ok.ensures.ok in
    let at = ap (λ t. slice_get t c.in-Ok.slot) c.as_slice.ensures.value ∙ h.1.1 in
    let none = sym (found_none _ _ c.in_default.not-Value (c.find_at-found.ensures _ at)) in
    let known = at_of m d c.args.site c.args.item s c.in-Ok-read_at.ensures.known in
    let room = ok_by c.room_at.result (sym c.is_err.ensures.value ∙ c.if-is_err.false) c.room_at.ensures.ok in
    let after = ap (λ ts. slice_get ts c.in-Ok.slot) c.keep_at.ensures.is
    ∙ get-slice_set_same c.room_at.new.table.items c.in-Ok.slot (Some c.keep_at.ensures.after)
    (slice_get_within c.room_at.new.table.items c.in-Ok.slot _ c.keep_at.ensures.was) in
    let at_last = ap (λ t. slice_get t c.in-Ok.slot) c.as_slice-2.ensures.value ∙ after in
    must_find m d s c.args.tx _ c.args.site c.args.item h (c.in-Ok.ensures.closed d s) known
    none c.room_at.new.table.items room c.in-Ok-read_at.seen c.read_at.new.places.items c.in-Ok-read_at.ensures.ok
    c.keep_at.new.table.items c.keep_at.ensures
    (sym (found_none _ _ c.in_default-find_at.not-Value (c.find_at.ensures _ at_last)))
