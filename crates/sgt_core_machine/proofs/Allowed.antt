-- What an allowed event of a step says of the machine: it is allowed in each state that the machine stands for.
use Rattle.std.proofs.Common.{◌≡◌, ◌<◌, ◌≤◌, ℕ, true, false, length, refl, sym, ◌∙◌, arith, inl, inr, Option, Some, None, subst, ap}
use Rattle.std.specs.Prelude.{slice_get, Any}
use Rattle.std.proofs.lemmas.Bool.{cases_Bool}
use Rattle.sgt_names.specs.Draft.{Touches}
use Rattle.sgt_names.specs.declared.draft.Touch.{Touch}
use Rattle.sgt_names.proofs.Lists.{within_at}
use Rattle.sgt_certifier.specs.Certifier.{State}
use Rattle.sgt_notation.specs.declared.event.Event.TheVariants.{Gather, Decide, Install as Write}
use Rattle.sgt_core_model.specs.declared.reply.Reply.TheVariants.{Fault}
use Rattle.sgt_core_model.specs.declared.reply.CoreFault.TheVariants as fault
use Rattle.sgt_core_machine.specs.declared.machine.Place.{Place}
use Rattle.sgt_core_machine.specs.declared.machine.Part.{Part}
use Rattle.sgt_core_machine.specs.declared.machine.Part.TheVariants.{Idle, Due, Written}
use Rattle.sgt_core_machine.specs.declared.machine.Open.{Open}
use Rattle.sgt_step.specs.declared.one_site.Ending.{Ending}
use Rattle.sgt_core_model.specs.Core.{CoreState, touches}
use Rattle.sgt_core_model.specs.Step.{StepIs, IsOtherOpen, IsDecided, IsAllowed}
use Rattle.sgt_core_machine.specs.Machine.{Parts, IsPart, IsStep, StandsFor, IsSlotOf}
use Rattle.sgt_core_machine.specs.private.Installing.{verdict_of}
use Rattle.sgt_core_model.proofs.Runs.{below, gather_idle, decide_idle}
use Rattle.sgt_core_machine.proofs.Standing.{reached_kept}
use Rattle.sgt_core_machine.proofs.Refusing.{site_count, idle_part, here_by_draft, gathered_there, may_gather, decide_too_early, may_decide}
use Rattle.sgt_core_machine.proofs.Installs.{allowed}

-- where no other's step is open in one state, none is in another
none_other : (m : Parts) (c d : CoreState) (tx : ℕ) (o : Option Open) → IsStep m c o → IsStep m d o
    → (IsOtherOpen c tx → ⊥) → IsOtherOpen d tx → ⊥
none_other m c d tx None h k out other = subst (StepIs (λ i. i ≡ tx → ⊥)) k.0 other
none_other m c d tx (Some o) h k out other =
    out (subst (StepIs (λ i. i ≡ tx → ⊥)) (sym h.1) (subst (StepIs (λ i. i ≡ tx → ⊥)) k.1 other))

module _ (m : Parts) (c : CoreState) (s : StandsFor m c) (tx slot : ℕ) (h : IsSlotOf m tx slot) where
  alone_in : (IsOtherOpen c tx → ⊥) → (d : CoreState) → StandsFor m d → IsOtherOpen d tx → ⊥
  alone_in out d stands = none_other m c d tx m.step s.step stands.step out

  site_within : (t : ℕ) → (length c.items ≤ t → ⊥) → t < length m.places
  site_within t out = let count = site_count m c s in let lt = below (length c.items) t out in omega (arith, count, lt)

  is_touched : (t : ℕ) → (touches c tx t ≡ false → ⊥) → touches c tx t ≡ true
  is_touched t out = elim (cases_Bool (touches c tx t)) [ inl hit ↦ hit | inr miss ↦ absurd (out miss) ]

  -- ---- a gather

  module _ (t : ℕ) (may : IsAllowed c (Gather tx t)) where
    pub gather_within : t < length m.places
    gather_within = site_within t (may fault.UnknownItem)

    pub gather_idle_part : (p : Place) → slice_get m.places t ≡ Some p → p.part ≡ Idle
    gather_idle_part p at =
        idle_part p.part (λ out. may fault.AlreadyDone (gathered_there m c s tx slot h (may fault.StepOpen) t p at out))

    pub gather_touched : Touches h.1.0.draft.touched t
    gather_touched =
        here_by_draft m c s tx slot h
        (λ done. let e : Some tx ≡ None = sym done ∙ gather_idle c tx t (reached_kept c s.reached) may in cc) t
        (is_touched t (may fault.NotTouched))

    pub gather_everywhere : (d : CoreState) → StandsFor m d → IsAllowed d (Gather tx t)
    gather_everywhere d stands =
        let p = within_at m.places t gather_within in
        may_gather m d stands tx slot h (alone_in (may fault.StepOpen) d stands) t p.0 p.1 (gather_idle_part p.0 p.1)
        gather_touched

  -- ---- the decision

  pub decide_everywhere : IsAllowed c (Decide tx) → (d : CoreState) → StandsFor m d → IsAllowed d (Decide tx)
  decide_everywhere may d stands =
      may_decide m d stands tx slot h (alone_in (may fault.StepOpen) d stands) none_missed undecided
    where
      none_missed : Any (λ (u : Touch). (p : Place) → slice_get m.places u.site ≡ Some p → p.part ≡ Idle)
          h.1.0.draft.touched → ⊥
      none_missed some =
          let refusal = decide_too_early m c s tx slot h (may fault.StepOpen) (Fault fault.NotGathered) some refl in
          may fault.NotGathered refusal.1.0.0

      undecided : IsDecided d tx → ⊥
      undecided done =
          let none = decide_idle c tx (reached_kept c s.reached) may in
          let there = ap (λ (st : State). st.step) stands.certifier.same in
          let here = ap (λ (st : State). st.step) s.certifier.same in
          let e : Some tx ≡ None = sym done ∙ (there ∙ (sym here ∙ none)) in
          cc

  -- ---- an install

  module _ (t : ℕ) (may : IsAllowed c (Write tx t)) where
    pub install_place : (p : Place) × (slice_get m.places t ≡ Some p) × (p.part ≡ Due)
    install_place =
        let p = within_at m.places t (site_within t (may fault.UnknownItem)) in
        (p.0, p.1, by_part p.0 p.0.part (s.places t p.0 p.1).part)
      where
        by_part : (p : Place) (part : Part) → IsPart m c t p part → part ≡ Due
        by_part p Idle is = absurd (may fault.AlreadyDone (is_touched t (may fault.NotTouched), is.1))
        by_part p Due is = refl
        by_part p Written is = absurd (may fault.AlreadyDone (is_touched t (may fault.NotTouched), is.due))

    pub install_everywhere : (verdict : Ending) → verdict_of m.step ≡ Some verdict → (d : CoreState) → StandsFor m d
        → IsAllowed d (Write tx t)
    install_everywhere verdict v d stands =
        let p = install_place in
        allowed m d stands tx slot h (alone_in (may fault.StepOpen) d stands) t p.0 p.1 verdict (sym v) p.2
