-- What is refused leaves the state that the machine stands for.
use Rattle.std.proofs.Common.{◌≡◌, ◌<◌, ◌≤◌, ◌⊎◌, ℕ, length, refl, sym, ◌∙◌, arith, inl, inr, Contains, Option, Some, None, subst, ap}
use Rattle.std.specs.Prelude.{slice_get, is_some, true, false, Any}
use Rattle.std.proofs.lemmas.Bool.{cases_Bool, cases_eq, true≢false}
use Rattle.std.proofs.lemmas.List.{length-map}
use Rattle.std.proofs.lemmas.Option.{same_Some, slice_get_within}
use Rattle.sgt_names.specs.Draft.{Touches, IsUsed}
use Rattle.sgt_names.specs.declared.draft.Touch.{Touch}
use Rattle.sgt_names.proofs.Lists.{All_in, Any_at, Any-from_at, within_at}
use Rattle.sgt_names.proofs.Places.{Contains-from_at}
use Rattle.sgt_core_model.proofs.Walks.{untouched_outside}
use Rattle.sgt_notation.specs.declared.event.Event.{Event}
use Rattle.sgt_notation.specs.declared.event.Event.TheVariants.{Gather, Decide, Install as Write}
use Rattle.sgt_core_model.specs.declared.reply.Reply.{Reply}
use Rattle.sgt_core_model.specs.declared.reply.Reply.TheVariants.{Fault}
use Rattle.sgt_core_model.specs.declared.reply.CoreFault.{CoreFault}
use Rattle.sgt_core_model.specs.declared.reply.CoreFault.TheVariants as fault
use Rattle.sgt_core_machine.specs.declared.machine.Place.{Place}
use Rattle.sgt_core_machine.specs.declared.machine.Part.{Part}
use Rattle.sgt_core_machine.specs.declared.machine.Part.TheVariants.{Idle, Due, Written}
use Rattle.sgt_core_machine.specs.declared.machine.Open.{Open}
use Rattle.sgt_core_model.specs.Core.{CoreState, OpenStep, touches}
use Rattle.sgt_core_model.specs.Step.{StepIs, IsOtherOpen, IsGathered, IsDecided, gathered_in, tx_in, Fails, fault_place, IsRefused, IsAllowed, MayStep}
use Rattle.sgt_core_machine.specs.Machine.{Parts, IsPart, IsStep, StandsFor, IsSlotOf}
use Rattle.sgt_core_machine.proofs.Standing.{reached_kept}
use Rattle.sgt_core_model.proofs.Runs.{touching_there}
use Rattle.sgt_core_model.proofs.Total.{refused-answered}
use Rattle.sgt_core_machine.proofs.Redrafting.{slot_begun, slot_active}
use Rattle.sgt_core_machine.proofs.Touching.{touches_draft, draft_touches, step_refused, gather_beyond, gather_again, gather_untouched, gather_allowed, decide_untimely, decide_done, decide_allowed, install_beyond, install_undecided}
use Rattle.sgt_names.proofs.Elements.{contains-none}

abbrev pub Goes : Parts → CoreState → Event → Reply → Type 0
Goes m c event reply = (d : CoreState) × MayStep c event reply d × StandsFor m d

pub refused_goes : (m : Parts) (c : CoreState) → StandsFor m c → (event : Event) (f : CoreFault) (reply : Reply)
    → reply ≡ Fault f → IsRefused c event f → Goes m c event reply
refused_goes m c s event f reply e r = (c, subst (λ q. MayStep c event q c) (sym e) (refused-answered c event f r), s)

pub site_count : (m : Parts) (c : CoreState) → StandsFor m c → length c.items ≡ length m.places
site_count m c s = ap length s.items ∙ length-map m.places (λ (p : Place). p.site.items)

pub decided_cases : (c : CoreState) (tx : ℕ) → IsDecided c tx ⊎ (IsDecided c tx → ⊥)
decided_cases c tx = by_step c.certifier.step refl
  where
    by_step : (o : Option ℕ) → c.certifier.step ≡ o → IsDecided c tx ⊎ (IsDecided c tx → ⊥)
    by_step None e = inr (λ is. let f : Some tx ≡ None = sym is ∙ e in absurd cc)
    by_step (Some i) e = elim (cases_eq i tx) [
      | inl is ↦ inl (e ∙ ap Some is)
      | inr other ↦ inr (λ is. other (same_Some i tx (sym e ∙ is)))
    ]

-- the sites that are gathered of the step, where it isn't another's
own_gathered : (o : Option OpenStep) (tx t : ℕ) → (StepIs (λ i. i ≡ tx → ⊥) o → ⊥) → Contains (gathered_in o) t
    → StepIs (λ i. i ≡ tx) o
own_gathered None tx t out m = absurd (contains-none t m)
own_gathered (Some o) tx t out m = elim (cases_eq o.tx tx) [ inl is ↦ is | inr other ↦ absurd (out other) ]

pub idle_part : (part : Part) → ((part ≡ Idle → ⊥) → ⊥) → part ≡ Idle
idle_part Idle out = refl
idle_part Due out = absurd (out (λ e. let f : Due ≡ Idle = e in cc))
idle_part Written out = absurd (out (λ e. let f : Written ≡ Idle = e in cc))

part_gathered : (m : Parts) (c : CoreState) (t : ℕ) (p : Place) (part : Part) → IsPart m c t p part
    → (part ≡ Idle → ⊥) → Contains (gathered_in c.step) t
part_gathered m c t p Idle h out = absurd (out refl)
part_gathered m c t p Due h out = h.1.gathered
part_gathered m c t p Written h out = h.gathered

part_idle : (m : Parts) (c : CoreState) (t : ℕ) (p : Place) (part : Part) → IsPart m c t p part → part ≡ Idle
    → Contains (gathered_in c.step) t → ⊥
part_idle m c t p Idle h is = h.2
part_idle m c t p Due h is = absurd cc
part_idle m c t p Written h is = absurd cc

module _ (m : Parts) (c : CoreState) (s : StandsFor m c) (tx slot : ℕ) (h : IsSlotOf m tx slot) where
  begun : tx ≤ c.certifier.begun
  begun = slot_begun m c tx slot s h

  active : Contains c.certifier.active tx
  active = slot_active m c tx slot s h

  pub here : (t : ℕ) → Touches h.1.0.draft.touched t → touches c tx t ≡ true
  here t any =
      let r = s.running slot (Some h.1.0) h.1.1 in
      subst (λ i. touches c i t ≡ true) (sym h.0)
      (draft_touches c (reached_kept c s.reached) m.before slot t h.1.0 r any)

  pub here_by_draft : (IsDecided c tx → ⊥) → (t : ℕ) → touches c tx t ≡ true → Touches h.1.0.draft.touched t
  here_by_draft undecided t hit =
      let r = s.running slot (Some h.1.0) h.1.1 in
      touches_draft c (reached_kept c s.reached) m.before slot t h.1.0 r (λ e. undecided (e ∙ ap Some (sym h.0)))
      (subst (λ i. touches c i t ≡ true) h.0 hit)

  pub step_open : (event : Event) → tx_in event ≡ Some tx → Fails c event fault.StepOpen → (reply : Reply)
      → reply ≡ Fault fault.StepOpen → Goes m c event reply
  step_open event is fails reply e =
      refused_goes m c s event fault.StepOpen reply e (step_refused c tx begun active event is fails)

  module _ (no_other : IsOtherOpen c tx → ⊥) where
    pub gathered_there : (t : ℕ) (p : Place) → slice_get m.places t ≡ Some p → (p.part ≡ Idle → ⊥) → IsGathered c tx t
    gathered_there t p at out =
        let member = part_gathered m c t p p.part (s.places t p at).part out in
        (own_gathered c.step tx t no_other member, member)

    pub fresh_there : (t : ℕ) (p : Place) → slice_get m.places t ≡ Some p → p.part ≡ Idle → IsGathered c tx t → ⊥
    fresh_there t p at is gathered = part_idle m c t p p.part (s.places t p at).part is gathered.1

    -- a decided transaction is gathered wherever it touches
    pub decided_gathered : (t : ℕ) → IsDecided c tx → touches c tx t ≡ true → IsGathered c tx t
    decided_gathered t done hit =
        let k = reached_kept c s.reached in
        (k.together tx done, k.gathered tx t done (touching_there c tx t hit))

    pub gather_no_site : (t : ℕ) (reply : Reply) → length m.places ≤ t → reply ≡ Fault fault.UnknownItem
        → Goes m c (Gather tx t) reply
    gather_no_site t reply out e =
        let count = site_count m c s in
        refused_goes m c s (Gather tx t) fault.UnknownItem reply e
        (gather_beyond c tx begun active no_other t (omega (arith, out, count)))

    pub gather_done : (t : ℕ) (p : Place) (reply : Reply) → slice_get m.places t ≡ Some p → (p.part ≡ Idle → ⊥)
        → reply ≡ Fault fault.AlreadyDone → Goes m c (Gather tx t) reply
    gather_done t p reply at out e =
        let count = site_count m c s in
        let inside = slice_get_within m.places t p at in
        refused_goes m c s (Gather tx t) fault.AlreadyDone reply e
        (gather_again c tx begun active no_other t (omega (arith, inside, count)) (gathered_there t p at out))

    pub gather_no_touch : (t : ℕ) (p : Place) (reply : Reply) → slice_get m.places t ≡ Some p → p.part ≡ Idle
        → (Touches h.1.0.draft.touched t → ⊥) → reply ≡ Fault fault.NotTouched → Goes m c (Gather tx t) reply
    gather_no_touch t p reply at fresh out e =
        let count = site_count m c s in
        let inside = slice_get_within m.places t p at in
        let miss : touches c tx t ≡ false = elim (cases_Bool (touches c tx t)) [
          | inl hit ↦ absurd (elim (decided_cases c tx) [
            | inl done ↦ fresh_there t p at fresh (decided_gathered t done hit)
            | inr undecided ↦ out (here_by_draft undecided t hit)
          ])
          | inr miss ↦ miss
        ] in
        refused_goes m c s (Gather tx t) fault.NotTouched reply e
        (gather_untouched c tx begun active no_other t (omega (arith, inside, count)) (fresh_there t p at fresh)
        miss)

    pub may_gather : (t : ℕ) (p : Place) → slice_get m.places t ≡ Some p → p.part ≡ Idle
        → Touches h.1.0.draft.touched t → IsAllowed c (Gather tx t)
    may_gather t p at fresh any =
        let count = site_count m c s in
        let inside = slice_get_within m.places t p at in
        gather_allowed c tx begun active no_other t (omega (arith, inside, count)) (fresh_there t p at fresh)
        (here t any)

    pub decide_too_early : (reply : Reply) → Any (λ (u : Touch). (p : Place) → slice_get m.places u.site ≡ Some p
        → p.part ≡ Idle) h.1.0.draft.touched → reply ≡ Fault fault.NotGathered → Goes m c (Decide tx) reply
    decide_too_early reply some e =
        let k = reached_kept c s.reached in
        let ts = h.1.0.draft.touched in
        let found = Any_at (λ (u : Touch). (p : Place) → slice_get m.places u.site ≡ Some p → p.part ≡ Idle) ts some in
        let used =
        All_in IsUsed ts found.1 (s.running slot (Some h.1.0) h.1.1).used
        (Contains-from_at ts found.0 found.1 found.2) in
        let hit =
        here found.1.site (Any-from_at (λ (t : Touch). (t.site ≡ found.1.site) × IsUsed t) ts found.0 found.1
        found.2 (refl, used)) in
        let inside : found.1.site < length c.items =
        below_all (length c.items) found.1.site (λ out. true≢false (sym hit
        ∙ untouched_outside c tx found.1.site k.sound.walked k.sound.legal out)) in
        let count = site_count m c s in
        let p = within_at m.places found.1.site (omega (arith, inside, count)) in
        refused_goes m c s (Decide tx) fault.NotGathered reply e
        (decide_untimely c tx begun active no_other found.1.site inside hit
        (fresh_there found.1.site p.0 p.1 (found.3 p.0 p.1)))
      where
        below_all : (n t : ℕ) → (n ≤ t → ⊥) → t < n
        below_all n t out = omega (arith, out)

    pub all_gathered : (Any (λ (u : Touch). (p : Place) → slice_get m.places u.site ≡ Some p
        → p.part ≡ Idle) h.1.0.draft.touched → ⊥) → (t : ℕ) → touches c tx t ≡ true → IsGathered c tx t
    all_gathered none t hit = elim (decided_cases c tx) [
      | inl done ↦ decided_gathered t done hit
      | inr undecided ↦
          let k = reached_kept c s.reached in
          let a = Any_at (λ (u : Touch). (u.site ≡ t) × IsUsed u) h.1.0.draft.touched (here_by_draft undecided t hit) in
          let inside : t < length c.items =
          below_all (length c.items) t (λ out. true≢false (sym hit
          ∙ untouched_outside c tx t k.sound.walked k.sound.legal out)) in
          let count = site_count m c s in
          let p = within_at m.places t (omega (arith, inside, count)) in
          gathered_there t p.0 p.1
          (λ is. none (Any-from_at (λ (u : Touch). (p : Place) → slice_get m.places u.site ≡ Some p
          → p.part ≡ Idle) h.1.0.draft.touched a.0 a.1 a.2
          (λ q at. ap (λ (w : Place). w.part) (same_Some q p.0 (sym at ∙ (ap (slice_get m.places) a.3.0 ∙ p.1))) ∙ is)))
    ]
      where
        below_all : (n t : ℕ) → (n ≤ t → ⊥) → t < n
        below_all n t out = omega (arith, out)

    pub may_decide : (Any (λ (u : Touch). (p : Place) → slice_get m.places u.site ≡ Some p
        → p.part ≡ Idle) h.1.0.draft.touched → ⊥) → (IsDecided c tx → ⊥) → IsAllowed c (Decide tx)
    may_decide none undecided = decide_allowed c tx begun active no_other (all_gathered none) undecided

    pub decide_again : (Any (λ (u : Touch). (p : Place) → slice_get m.places u.site ≡ Some p
        → p.part ≡ Idle) h.1.0.draft.touched → ⊥) → IsDecided c tx
        → (reply : Reply) → reply ≡ Fault fault.AlreadyDone → Goes m c (Decide tx) reply
    decide_again none done reply e =
        refused_goes m c s (Decide tx) fault.AlreadyDone reply e
        (decide_done c tx begun active no_other (all_gathered none) done)

    pub install_no_site : (t : ℕ) (reply : Reply) → length m.places ≤ t → reply ≡ Fault fault.UnknownItem
        → Goes m c (Write tx t) reply
    install_no_site t reply out e =
        let count = site_count m c s in
        refused_goes m c s (Write tx t) fault.UnknownItem reply e
        (install_beyond c tx begun active no_other t (omega (arith, out, count)))

    pub install_too_early : (t : ℕ) (reply : Reply) → t < length m.places → (IsDecided c tx → ⊥)
        → reply ≡ Fault fault.NotGathered → Goes m c (Write tx t) reply
    install_too_early t reply inside undecided e =
        let count = site_count m c s in
        refused_goes m c s (Write tx t) fault.NotGathered reply e
        (install_undecided c tx begun active no_other t (omega (arith, inside, count)) undecided)

-- a step is open where the machine has one
pub some_open : (m : Parts) (c : CoreState) (o : Option Open) → is_some o ≡ true → IsStep m c o → c.step ≡ None → ⊥
some_open m c None e h none = absurd cc
some_open m c (Some o) e h none =
    let f : ◌≡◌ {A = Option OpenStep} (Some (record { tx = o.tx; gathered = h.0 })) None = sym h.1 ∙ none in absurd cc

pub untimely : (c : CoreState) (event : Event) → tx_in event ≡ None → Fails c event fault.StepOpen
    → IsRefused c event fault.StepOpen
untimely c event is h = (h, first)
  where
    first : (g : CoreFault) → fault_place g < 3 → Fails c event g → ⊥
    first fault.Unknown lt k = let e : None ≡ Some k.0 = sym is ∙ k.1 in absurd cc
    first fault.Ended lt k = let e : None ≡ Some k.0 = sym is ∙ k.1 in absurd cc
    first fault.StepOpen lt k = absurd (omega arith)
    first fault.UnknownItem lt k = absurd (omega arith)
    first fault.NotGathered lt k = absurd (omega arith)
    first fault.AlreadyDone lt k = absurd (omega arith)
    first fault.WindowFull lt k = absurd (omega arith)
    first fault.ActiveLeft lt k = absurd (omega arith)
    first fault.Memory lt k = absurd (omega arith)
    first fault.GenerationsSpent lt k = absurd (omega arith)
    first fault.NumbersSpent lt k = absurd (omega arith)
    first fault.NotTouched lt k = absurd (omega arith)
