-- A line is answered by a core that stands for states of the model.
use Rattle.std.proofs.Common.{◌≡◌, ◌≢◌, ◌≤◌, ◌+◌, arith, ℕ, List, [], ◌∷◌, ◌++◌, length, refl, sym, ◌∙◌, ap, subst, inl, inr, Ok, Err}
use Rattle.std.proofs.lemmas.List.{append-nil}
use Rattle.sgt_names.specs.Limits.{max_line}
use Rattle.sgt_notation.specs.Events.{IsEventLine, event_text}
use Rattle.sgt_notation.specs.Reading.{SpellsNone}
use Rattle.sgt_notation.specs.Spelling.{HasNoLf}
use Rattle.sgt_notation.specs.declared.event.EventLine.{EventLine}
use Rattle.sgt_pipe.specs.declared.handed.KeepFault.{KeepFault}
use Rattle.sgt_pipe.specs.declared.handed.KeepFault.TheVariants as keep
use Rattle.sgt_bundle.specs.Text.{text_of}
use Rattle.sgt_core_model.specs.Core.{CoreState, bundle_of, fresh}
use Rattle.sgt_core_model.specs.declared.reply.CoreFault.{CoreFault}
use Rattle.sgt_core_model.specs.declared.reply.CoreFault.TheVariants as core_fault
use Rattle.sgt_core_model.specs.declared.reply.Reply.{Reply}
use Rattle.sgt_core_model.specs.declared.reply.Reply.TheVariants.{Fault}
use Rattle.sgt_core_machine.specs.Cut.{last_values}
use Rattle.sgt_core_machine.specs.Machine.{GoesOn, Parts, RefusesBundle, StandsFor}
use Rattle.sgt_core.specs.Replay.{MayAnswer}
use Rattle.sgt_courses.specs.declared.answer.Answer.TheVariants.{Replies, Cut, Uncut, Unreadable}
use Rattle.sgt_courses.specs.declared.answer.CutFault.{CutFault}
use Rattle.sgt_courses.specs.Course.{IsUncut, cut_line}
use Rattle.sgt_serve.specs.private.Turning.{Takes, cut_fault_of, refused_for, uncut_by}
use Rattle.sgt_serve.specs.Place.{Kept, PlaceSays, refused_to}

-- a fault that isn't E8
pub refused_once : (f : CoreFault) → (f ≡ core_fault.ActiveLeft → ⊥) → refused_for f ≡ 1
refused_once core_fault.ActiveLeft not = absurd (not refl)
refused_once f not = refl

-- nothing was refused here
none_refused : (k n : ℕ) → n ≡ k → n ≡ k + 0
none_refused k n same = omega (arith, same)

pub takes_reply : (old new : Parts) (line : List ℕ) (e : EventLine) (reply : Reply) (kept kept' : Kept)
    → IsEventLine e → line ≡ event_text e → GoesOn (λ c d. MayAnswer c e reply d) old new
    → kept'.items ≡ kept.items → kept'.answers ≡ kept.answers → kept'.refused ≡ kept.refused + refused_to reply
    → Takes old line (Replies reply) kept kept' new
takes_reply old new line e reply kept kept' is text goes items answers refused = (
  λ c stands.
      let (d, may, there) = goes c stands in
      (d, [], ((e, is, text, may), refl), items ∙ sym (append-nil kept.items), there),
  ([], refused_to reply, (refl, refl), answers ∙ sym (append-nil kept.answers), refused),
)

pub takes_none : (old : Parts) (line : List ℕ) (kept : Kept) → SpellsNone IsEventLine event_text line
    → line ≢ cut_line → HasNoLf line
    → length line ≤ max_line → Takes old line Unreadable kept kept old
takes_none old line kept event cut one short = (
  λ c stands. (
    c,
    [],
    (record { event = event; cut = cut; one = one; short = short }, refl, refl),
    sym (append-nil kept.items),
    stands,
  ),
  ([], 0, (refl, refl), sym (append-nil kept.answers), none_refused kept.refused kept.refused refl),
)

pub takes_cut : (old next : Parts) (number : ℕ) (text : List ℕ) (kept kept' : Kept)
    → ((c : CoreState) → StandsFor old c → text ≡ text_of (bundle_of c))
    → ((c : CoreState) → StandsFor old c → StandsFor next (fresh (last_values c)))
    → ((c : CoreState) → StandsFor old c → c.certifier.active ≡ [])
    → kept'.items ≡ kept.items ++ (number, text) ∷ [] → kept'.answers ≡ kept.answers ++ Ok number ∷ []
    → kept'.refused ≡ kept.refused → Takes old cut_line (Cut number) kept kept' next
takes_cut old next number text kept kept' spelled begins idle more says refused = (
  λ c stands. (
    fresh (last_values c),
    record { number = number; bundle = bundle_of c } ∷ [],
    (refl, (idle c stands, refl, refl)),
    more ∙ ap (λ (t : List ℕ). kept.items ++ (number, t) ∷ []) (spelled c stands),
    begins c stands,
  ),
  (Ok number ∷ [], 0, (refl, refl), says, none_refused kept.refused kept'.refused refused),
)

uncut_as : (c : CoreState) (f : KeepFault) → c.certifier.active ≡ [] → IsUncut c (uncut_by f)
uncut_as c keep.Memory idle = idle
uncut_as c keep.Refused idle = idle

said_as : (f : KeepFault) → PlaceSays (Uncut (uncut_by f)) (Err f ∷ []) 0
said_as keep.Memory = inr (refl, refl)
said_as keep.Refused = (refl, refl)

pub takes_unkept : (old : Parts) (f : KeepFault) (told : CutFault) (kept kept' : Kept)
    → ((c : CoreState) → StandsFor old c → c.certifier.active ≡ []) → told ≡ uncut_by f
    → kept'.items ≡ kept.items → kept'.answers ≡ kept.answers ++ Err f ∷ [] → kept'.refused ≡ kept.refused
    → Takes old cut_line (Uncut told) kept kept' old
takes_unkept old f told kept kept' idle is same says refused =
    subst (λ (t : CutFault). Takes old cut_line (Uncut t) kept kept' old) (sym is) (
      (λ c stands. (
        c,
        [],
        (refl, uncut_as c f (idle c stands), refl, refl),
        same ∙ sym (append-nil kept.items),
        stands,
      )),
      (Err f ∷ [], 0, said_as f, says, none_refused kept.refused kept'.refused refused),
    )

refused_as : (c : CoreState) (f : CoreFault) → RefusesBundle c f → IsUncut c (cut_fault_of f)
refused_as c core_fault.ActiveLeft refused = refused
refused_as c core_fault.Memory refused = refused
refused_as c f refused = absurd refused

silent_as : (f : CoreFault) → PlaceSays (Uncut (cut_fault_of f)) [] (refused_for f)
silent_as core_fault.ActiveLeft = (refl, refl)
silent_as f = inl (refl, refl)

pub takes_refused : (old : Parts) (f : CoreFault) (told : CutFault) (kept kept' : Kept)
    → ((c : CoreState) → StandsFor old c → RefusesBundle c f) → told ≡ cut_fault_of f
    → kept'.items ≡ kept.items → kept'.answers ≡ kept.answers → kept'.refused ≡ kept.refused + refused_for f
    → Takes old cut_line (Uncut told) kept kept' old
takes_refused old f told kept kept' refused same items answers more = (
  λ c stands. (
    c,
    [],
    (refl, subst (IsUncut c) (sym same) (refused_as c f (refused c stands)), refl, refl),
    items ∙ sym (append-nil kept.items),
    stands,
  ),
  (
    [],
    refused_for f,
    subst (λ (t : CutFault). PlaceSays (Uncut t) [] (refused_for f)) (sym same) (silent_as f),
    answers ∙ sym (append-nil kept.answers),
    more,
  ),
)
