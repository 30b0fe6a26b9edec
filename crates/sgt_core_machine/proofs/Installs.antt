-- An install: whether its block is due, and what is told where it isn't.
use Rattle.std.proofs.Common.{◌≡◌, ◌<◌, ◌≤◌, ◌+◌, ℕ, suc, true, false, [], length, refl, sym, ◌∙◌, arith, inl, inr, Contains, Option, Some, None, subst, ap}
use Rattle.std.specs.Prelude.{slice_get, Any}
use Rattle.std.proofs.lemmas.Bool.{cases_Bool, cases_eq, true≢false}
use Rattle.std.proofs.lemmas.Option.{same_Some, slice_get_within}
use Rattle.sgt_names.specs.Draft.{at_site}
use Rattle.sgt_certifier.specs.Certifier.{State}
use Rattle.sgt_notation.specs.declared.event.Event.TheVariants.{Install as Write}
use Rattle.sgt_core_model.specs.declared.reply.Reply.{Reply}
use Rattle.sgt_core_model.specs.declared.reply.Reply.TheVariants.{Installed, Fault}
use Rattle.sgt_core_model.specs.declared.reply.CoreFault.{CoreFault}
use Rattle.sgt_core_model.specs.declared.reply.CoreFault.TheVariants as fault
use Rattle.sgt_core_machine.specs.declared.machine.Place.{Place}
use Rattle.sgt_core_machine.specs.declared.machine.Part.TheVariants.{Idle, Due, Written}
use Rattle.sgt_core_machine.specs.declared.machine.Running.{Running}
use Rattle.sgt_core_machine.specs.declared.machine.Open.{Open}
use Rattle.sgt_core_machine.specs.declared.machine.Phase.{Phase}
use Rattle.sgt_core_machine.specs.declared.machine.Phase.TheVariants as phase
use Rattle.sgt_step.specs.declared.one_site.Ending.{Ending}
use Rattle.sgt_step.specs.declared.one_site.Ending.TheVariants.{Committed}
use Rattle.sgt_core_model.specs.Core.{CoreState, touches}
use Rattle.sgt_core_model.specs.Step.{StepIs, IsOtherOpen, IsDecided, Fails, fault_place, IsRefused, IsAllowed, MayStep}
use Rattle.sgt_core_machine.specs.Machine.{Parts, IsPart, IsPhase, IsStep, StandsFor, IsSlotOf}
use Rattle.sgt_core_machine.specs.private.Installing.{verdict_in, verdict_of, IsPledgedAt, AwaitsAt, Writes, Ends}
use Rattle.sgt_core_machine.proofs.Changing.{behind_step}
use Rattle.sgt_core_machine.proofs.Redrafting.{slot_begun, slot_active}
use Rattle.sgt_core_machine.proofs.Refusing.{Goes, refused_goes, site_count, here, install_too_early}
use Rattle.sgt_core_model.proofs.Runs.{touching_there}
use Rattle.sgt_core_machine.proofs.Standing.{reached_kept}
use Rattle.sgt_core_machine.proofs.InstallBlocks.{IsVerdict, verdict_phase, awaits_phase, due_some, IsToWrite, decided_so, due_of, touched_there, pledged_there}
use Rattle.sgt_core_machine.proofs.InstallEnds.{IsDueThere, open_goes, ended_goes}

-- ---- refusals

module _ (c : CoreState) (tx t : ℕ) (begun : tx ≤ c.certifier.begun) (active : Contains c.certifier.active tx)
    (no_other : IsOtherOpen c tx → ⊥) (inside : t < length c.items)
    (decided : IsDecided c tx) where
  install_again : touches c tx t ≡ true → c.due t ≡ [] → IsRefused c (Write tx t) fault.AlreadyDone
  install_again hit none = ((hit, none), first)
    where
      first : (g : CoreFault) → fault_place g < 6 → Fails c (Write tx t) g → ⊥
      first fault.UnknownItem lt h = absurd (omega (arith, inside, h))
      first fault.NotGathered lt h = h decided
      first fault.AlreadyDone lt h = absurd (omega arith)
      first fault.NotTouched lt h = absurd (omega arith)
      first fault.Unknown lt h = behind_step c tx begun active (Write tx t) refl no_other fault.Unknown (omega arith) h
      first fault.Ended lt h = behind_step c tx begun active (Write tx t) refl no_other fault.Ended (omega arith) h
      first fault.StepOpen lt h = no_other h
      first _ lt h = h

  install_untouched : touches c tx t ≡ false → IsRefused c (Write tx t) fault.NotTouched
  install_untouched miss = (miss, first)
    where
      first : (g : CoreFault) → fault_place g < 12 → Fails c (Write tx t) g → ⊥
      first fault.UnknownItem lt h = absurd (omega (arith, inside, h))
      first fault.NotGathered lt h = h decided
      first fault.AlreadyDone lt h = true≢false (sym h.0 ∙ miss)
      first fault.NotTouched lt h = absurd (omega arith)
      first fault.Unknown lt h = behind_step c tx begun active (Write tx t) refl no_other fault.Unknown (omega arith) h
      first fault.Ended lt h = behind_step c tx begun active (Write tx t) refl no_other fault.Ended (omega arith) h
      first fault.StepOpen lt h = no_other h
      first _ lt h = h

  install_allowed : touches c tx t ≡ true → (c.due t ≡ [] → ⊥) → IsAllowed c (Write tx t)
  install_allowed hit some fault.UnknownItem h = absurd (omega (arith, inside, h))
  install_allowed hit some fault.NotGathered h = h decided
  install_allowed hit some fault.AlreadyDone h = some h.1
  install_allowed hit some fault.NotTouched h = true≢false (sym hit ∙ h)
  install_allowed hit some fault.Unknown h =
      behind_step c tx begun active (Write tx t) refl no_other fault.Unknown (omega arith) h
  install_allowed hit some fault.Ended h =
      behind_step c tx begun active (Write tx t) refl no_other fault.Ended (omega arith) h
  install_allowed hit some fault.StepOpen h = no_other h
  install_allowed hit some _ h = h

-- ---- the verdict

undecided_in : (m : Parts) (c : CoreState) (o : Open) (p : Phase) → verdict_in p ≡ None → IsPhase m c o p
    → c.certifier.step ≡ None
undecided_in m c o (phase.Gathering edges) e h = h.0
undecided_in m c o phase.Committed e h = absurd cc
undecided_in m c o phase.Refused e h = absurd cc

pub undecided_by : (m : Parts) (c : CoreState) (o : Option Open) → verdict_of o ≡ None → IsStep m c o
    → c.certifier.step ≡ None
undecided_by m c None e h = h.1
undecided_by m c (Some o) e h = undecided_in m c o o.phase e h.2

-- the open step that was decided
decided_step : (o : Option Open) (verdict : Ending) → verdict_of o ≡ Some verdict
    → (p : Open) × (o ≡ Some p) × (verdict_in p.phase ≡ Some verdict)
decided_step None verdict e = absurd cc
decided_step (Some p) verdict e = (p, refl, e)

own_step : (m : Parts) (c : CoreState) (tx : ℕ) → (IsOtherOpen c tx → ⊥) → (o : Open) → IsStep m c (Some o) → o.tx ≡ tx
own_step m c tx no_other o h = elim (cases_eq o.tx tx) [
  | inl is ↦ is
  | inr other ↦ absurd (no_other (subst (StepIs (λ i. i ≡ tx → ⊥)) (sym h.1) other))
]

module _ (m : Parts) (c : CoreState) (s : StandsFor m c) (tx slot : ℕ) (h : IsSlotOf m tx slot)
    (no_other : IsOtherOpen c tx → ⊥) (t : ℕ) (p : Place) (at : slice_get m.places t ≡ Some p) where
  begun : tx ≤ c.certifier.begun
  begun = slot_begun m c tx slot s h

  active : Contains c.certifier.active tx
  active = slot_active m c tx slot s h

  inside : t < length c.items
  inside = let count = site_count m c s in let lt = slice_get_within m.places t p at in omega (arith, count, lt)

  pub install_early : (reply : Reply) → verdict_of m.step ≡ None → reply ≡ Fault fault.NotGathered
      → Goes m c (Write tx t) reply
  install_early reply none e =
      let undecided : IsDecided c tx → ⊥ = λ d. let g : Some tx ≡ None = sym d
      ∙ undecided_by m c m.step none s.step in absurd cc in
      install_too_early m c s tx slot h no_other t reply (slice_get_within m.places t p at) undecided e

  module _ (verdict : Ending) (v : Some verdict ≡ verdict_of m.step) where
    abbrev o : Open
    o = (decided_step m.step verdict (sym v)).0

    is : m.step ≡ Some o
    is = (decided_step m.step verdict (sym v)).1

    verdict_is : verdict_in o.phase ≡ Some verdict
    verdict_is = (decided_step m.step verdict (sym v)).2

    stepped : IsStep m c (Some o)
    stepped = subst (IsStep m c) is s.step

    own : o.tx ≡ tx
    own = own_step m c tx no_other o stepped

    decided : IsVerdict c verdict tx
    decided = subst (IsVerdict c verdict) own (verdict_phase m c o verdict o.phase verdict_is stepped.2)

    pub untouched_goes : (reply : Reply) → p.part ≡ Idle → reply ≡ Fault fault.NotTouched → Goes m c (Write tx t) reply
    untouched_goes reply idle e =
        let k = reached_kept c s.reached in
        let part = subst (IsPart m c t p) idle (s.places t p at).part in
        let miss : touches c tx t ≡ false = elim (cases_Bool (touches c tx t)) [
          | inl hit ↦ absurd (part.2 (k.gathered tx t decided.decided (touching_there c tx t hit)))
          | inr miss ↦ miss
        ] in
        refused_goes m c s (Write tx t) fault.NotTouched reply e
        (install_untouched c tx t begun active no_other inside decided.decided miss)

    pub again_goes : (reply : Reply) → p.part ≡ Written → reply ≡ Fault fault.AlreadyDone → Goes m c (Write tx t) reply
    again_goes reply written e =
        let part = subst (IsPart m c t p) written (s.places t p at).part in
        let number : suc (m.before + part.place) ≡ tx = same_Some (suc (m.before + part.place)) tx (sym part.decided
        ∙ decided.decided) in
        let here_is = h.0 in
        let place : part.place ≡ slot = omega (arith, number, here_is) in
        let same : part.running ≡ h.1.0 =
        same_Some part.running h.1.0 (same_Some (Some part.running) (Some h.1.0) (sym part.there
        ∙ (ap (slice_get m.table) place ∙ h.1.1))) in
        let hit =
        here m c s tx slot h t (subst (λ (r : Running). Rattle.sgt_names.specs.Draft.Touches r.draft.touched t)
        same part.touched) in
        refused_goes m c s (Write tx t) fault.AlreadyDone reply e
        (install_again c tx t begun active no_other inside decided.decided hit part.due)

    module _ (due : p.part ≡ Due) where
      pub to_write : IsToWrite m c verdict tx slot t
      to_write = record {
        open_step = o;
        is = is;
        own = own;
        verdict_is = verdict_is;
        number = h.0;
        running =
            h.1.0;
        runs = h.1.1;
        place = p;
        there = at;
        due = due;
      }

      pub allowed : IsAllowed c (Write tx t)
      unfolding to_write
      allowed =
          let hit = here m c s tx slot h t (touched_there m c s verdict tx slot t to_write) in
          install_allowed c tx t begun active no_other inside decided.decided hit
          (due_some m c tx h.1.0.draft.touched t verdict o.phase verdict_is (due_of m c s verdict tx slot t to_write))

      -- what the block is written by
      pub pledged : IsPledgedAt m.places m.table t slot tx
      unfolding to_write
      pledged = record {
        place = p;
        running = h.1.0;
        there = at;
        runs = h.1.1;
        pledge = pledged_there m c s verdict tx slot t to_write
            ∙ ap (λ n. Some (record { tx = tx; part = at_site n h.1.0.draft.touched })) (sym (s.places t p at).number);
      }

      pub awaited : verdict ≡ Committed → AwaitsAt m.certifier t tx
      unfolding decided_step to_write
      awaited committed =
          let step = ap (λ (st : State). st.step) s.certifier.same in
          let order = ap (λ (st : State). st.order) s.certifier.same in
          record {
            installing = (sym step ∙ decided.decided, subst (λ ts. Contains ts tx) order (decided.committed committed));
            awaits = awaits_phase m c tx h.1.0.draft.touched t o.phase (verdict_is
                ∙ ap Some committed) (due_of m c s verdict tx slot t to_write);
          }

      module _ (n : Parts) (wrote : Writes verdict m n t slot tx) where
        -- the certifier's step is still open
        pub open_certifier : n.certifier.step ≡ Some tx
        open_certifier =
            ap (λ (st : State). st.step)
            (sym (Rattle.sgt_core_machine.proofs.InstallBlocks.written_carries m c s verdict tx slot t to_write n
            wrote).same)
            ∙ (Rattle.sgt_core_model.proofs.Runs.noted-step c tx t ∙ decided.decided)

        pub still_goes : (reply : Reply) → Any IsDueThere n.places → reply ≡ Installed
            → (d : CoreState) × MayStep c (Write tx t) reply d × StandsFor n d
        still_goes reply some e =
            let g = open_goes m c s verdict tx slot t to_write n wrote allowed some in
            (g.0, subst (λ q. MayStep c (Write tx t) q g.0) (sym e) g.1, g.2)

        pub last_goes : (e : Parts) → Ends n e slot tx → (Any IsDueThere n.places → ⊥) → (reply : Reply)
            → reply ≡ Installed → (d : CoreState) × MayStep c (Write tx t) reply d × StandsFor e d
        last_goes e ends none reply is =
            let g = ended_goes m c s verdict tx slot t to_write n wrote none e ends allowed in
            (g.0, subst (λ q. MayStep c (Write tx t) q g.0) (sym is) g.1, g.2)
