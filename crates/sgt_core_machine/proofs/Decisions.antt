-- What a machine stands for once a transaction is decided: its blocks are due, or it ends since it touches nothing.
use Rattle.std.proofs.Common.{◌≡◌, ◌<◌, ◌≤◌, ◌+◌, ℕ, suc, Bool, true, false, List, [], ◌∷◌, length, refl, sym, ◌∙◌, arith, inl, inr, Contains, Option, Some, None, subst, ap}
use Rattle.std.specs.Prelude.{slice_get, slice_set, not, ◌==◌, ◌&&◌}
use Rattle.std.specs.List.{list_all}
use Rattle.std.proofs.lemmas.Bool.{cases_Bool, cases_eq, eq-eqb, ne_eqb, true≢false}
use Rattle.std.proofs.lemmas.List.{length-set}
use Rattle.std.proofs.lemmas.Option.{same_Some, slice_get_within}
use Rattle.sgt_names.specs.Draft.{at_site}
use Rattle.sgt_names.specs.declared.draft.Touch.{Touch}
use Rattle.sgt_names.specs.declared.entry.Entry.{Entry}
use Rattle.sgt_names.proofs.Lists.{within_at}
use Rattle.sgt_site.specs.declared.cell.Install.{Install}
use Rattle.sgt_certifier.specs.Certifier.{State, with_finished}
use Rattle.sgt_certifier.proofs.Members.{filter_member, member_filter}
use Rattle.sgt_notation.specs.declared.event.Event.TheVariants.{Decide}
use Rattle.sgt_core_machine.specs.declared.machine.Place.{Place}
use Rattle.sgt_core_machine.specs.declared.machine.Part.{Part}
use Rattle.sgt_core_machine.specs.declared.machine.Part.TheVariants.{Idle, Due, Written}
use Rattle.sgt_core_machine.specs.declared.machine.Running.{Running}
use Rattle.sgt_core_machine.specs.declared.machine.Open.{Open}
use Rattle.sgt_core_machine.specs.declared.machine.Phase.TheVariants.{Committed}
use Rattle.sgt_core_model.specs.Core.{CoreState, touches, sites_of, is_empty, closed_if_written, decided}
use Rattle.sgt_core_model.specs.Step.{IsOtherOpen, gathered_in, MayStep}
use Rattle.sgt_core_machine.specs.Machine.{Parts, Carries, RunsAt, IsHandleOf, AwaitsInstall, IsDueBy, IsDueAt, IsPart, IsPlace, IsPhase, IsStep, StandsFor, IsSlotOf}
use Rattle.sgt_core_machine.specs.private.Decided.{phase_after, reply_after}
use Rattle.sgt_core_model.proofs.Kept.{IsKept}
use Rattle.sgt_core_model.proofs.Walks.{untouched_outside}
use Rattle.sgt_core_model.proofs.Committing.{stays_open}
use Rattle.sgt_core_machine.proofs.Touching.{draft_touches}
use Rattle.sgt_core_machine.proofs.Standing.{reached_more, reached_kept}
use Rattle.sgt_core_machine.proofs.Refusing.{site_count}
use Rattle.sgt_core_machine.proofs.Stepping.{step_own}
use Rattle.sgt_core_machine.proofs.Noting.{ended_noted}
use Rattle.sgt_names.proofs.Elements.{get-slice_set_same, get-slice_set_other, contains-none}

-- what the model's decision leaves, where the machine's certifier was left so
pub record IsDecision (c : CoreState) (tx : ℕ) (new : State) (told : Bool) : Type 0 where
  pub certifier : State
  pub due : ℕ → List Entry
  pub carries : Carries new certifier
  pub same : certifier ≡ record c.certifier {
    order = certifier.order;
    arcs = certifier.arcs;
    step =
        Some tx;
    rulings = certifier.rulings;
  }
  pub order : (i : ℕ) → Contains c.certifier.order i → Contains certifier.order i
  pub phase : (n : Parts) (d : CoreState) (o : Open) → d.certifier ≡ certifier → o.tx ≡ tx
      → IsPhase n d o (phase_after told)
  pub some : (s : ℕ) → touches c tx s ≡ true → due s ≡ [] → ⊥
  pub none : (s : ℕ) → touches c tx s ≡ false → due s ≡ []
  pub due_by : (n : Parts) (d : CoreState) (touched : List Touch) (s : ℕ) → d.due ≡ due → d.changes ≡ c.changes
      → touches c tx s ≡ true
      → (phase_after told ≡ Committed → AwaitsInstall n.certifier tx s) → IsDueBy n d tx touched (phase_after told) s
  pub may : MayStep c (Decide tx) (reply_after told) (decided c tx certifier due)

abbrev pub decided_parts : Parts → ℕ → State → Bool → Parts
decided_parts m tx new told = record m { certifier = new; step = Some (record { tx = tx; phase = phase_after told }) }

abbrev pub decided_state : CoreState → State → (ℕ → List Entry) → CoreState
decided_state c certifier due = record c { certifier = certifier; due = due }

abbrev pub ended_state : CoreState → ℕ → State → CoreState
ended_state c tx certifier = record c { certifier = with_finished certifier tx; step = None; due = λ s. [] }

-- the step closes where nothing is due
closes : (c : CoreState) (i : ℕ) → ((s : ℕ) → c.due s ≡ [])
    → closed_if_written c i ≡ record c { certifier = with_finished c.certifier i; step = None; due = λ s. [] }
closes c i none = rw (all_empty c.due (sites_of c) none) refl
  where
    all_empty : (due : ℕ → List Entry) (xs : List ℕ) → ((s : ℕ) → due s ≡ [])
        → list_all (λ s. is_empty (due s)) xs ≡ true
    all_empty due [] e = refl
    all_empty due (x ∷ xs) e = ap (λ es. is_empty es && list_all (λ s. is_empty (due s)) xs) (e x) ∙ all_empty due xs e

module _ (m : Parts) (c : CoreState) (s : StandsFor m c) (tx slot : ℕ) (h : IsSlotOf m tx slot)
    (no_other : IsOtherOpen c tx → ⊥) (undecided : c.certifier.step ≡ None)
    (everywhere : (t : ℕ) → touches c tx t ≡ true → Contains (gathered_in c.step) t) (new : State) (told : Bool)
    (v : IsDecision c tx new told) where
  abbrev k : IsKept c
  k = reached_kept c s.reached

  active_same : v.certifier.active ≡ c.certifier.active
  active_same = ap (λ (st : State). st.active) v.same

  before_same : v.certifier.before ≡ c.certifier.before
  before_same = ap (λ (st : State). st.before) v.same

  begun_same : v.certifier.begun ≡ c.certifier.begun
  begun_same = ap (λ (st : State). st.begun) v.same

  generation_same : v.certifier.generation ≡ c.certifier.generation
  generation_same = ap (λ (st : State). st.generation) v.same

  handle_stays : (i : Install) → IsHandleOf c.certifier i → IsHandleOf v.certifier i
  handle_stays i (inl here) =
      inl (
        here.0 ∙ sym generation_same,
        here.1 ∙ ap (λ b. suc (b + i.handle.index)) (sym before_same),
        v.order i.tx here.2,
      )
  handle_stays i (inr older) = inr (omega (arith, older.0, generation_same), omega (arith, older.1, before_same))

  -- the machine has the step open that the model has
  due_touched : (t : ℕ) (p : Place) (o : Open) (a : IsDueAt m c t p o) → touches c tx t ≡ true
  due_touched t p o a =
      let own = step_own m c tx no_other m.step s.step o a.open_step in
      subst (λ i. touches c i t ≡ true) (sym a.tx
      ∙ own) (draft_touches c k m.before a.place t a.running (s.running a.place (Some a.running) a.there) a.touched)

  not_written : (n : ℕ) → c.certifier.step ≡ Some n → ⊥
  not_written n e = let f : Some n ≡ None = sym e ∙ undecided in absurd cc

  idle_none : (t : ℕ) → (Contains (gathered_in c.step) t → ⊥) → v.due t ≡ []
  idle_none t out = elim (cases_Bool (touches c tx t)) [
    | inl hit ↦ absurd (out (everywhere t hit))
    | inr miss ↦ v.none t miss
  ]

  -- ---- where a block is due

  module _ (r : Running) (runs : slice_get m.table slot ≡ Some (Some r)) (awaits : phase_after told ≡ Committed
      → (t : ℕ) → AwaitsInstall new tx t) where
    abbrev n : Parts
    n = decided_parts m tx new told

    abbrev d : CoreState
    d = decided_state c v.certifier v.due

    decided_slot : (j : ℕ) (o : Option Running) → RunsAt c m.before j o → RunsAt d m.before j o
    decided_slot j None out = λ there. out (subst (λ xs. Contains xs (suc (m.before + j))) active_same there)
    decided_slot j (Some w) is = record {
      active = subst (λ xs. Contains xs (suc (m.before + j))) (sym active_same) is.active;
      handle = is.handle ∙ ap (λ g. record { index = j; generation = g }) (sym generation_same);
      rising = is.rising;
      used = is.used;
      changes = is.changes;
      reads = is.reads;
    }

    decided_part : (t : ℕ) (p : Place) (part : Part) → IsPart m c t p part → IsPart n d t p part
    decided_part t p Idle is = (is.0, idle_none t is.2, is.2)
    decided_part t p Written is = absurd (not_written _ is.decided)
    decided_part t p Due is =
        let o = is.0 in
        let a = is.1 in
        let own = step_own m c tx no_other m.step s.step o a.open_step in
        let same_place : a.place ≡ slot = omega (arith, a.tx, own, h.0) in
        let same : r ≡ a.running =
        same_Some r a.running (same_Some (Some r) (Some a.running) (sym runs
        ∙ (ap (slice_get m.table) (sym same_place) ∙ a.there))) in (
          record { tx = tx; phase = phase_after told },
          record {
            open_step = refl;
            place = a.place;
            running = a.running;
            there = a.there;
            tx = sym own ∙ a.tx;
            gathered = a.gathered;
            touched = a.touched;
            pledge = a.pledge ∙ ap (λ i. Some (record { tx = i; part = at_site t a.running.draft.touched })) own;
            due = v.due_by n d a.running.draft.touched t refl refl (due_touched t p o a)
                (λ is. subst (λ (w : Running). AwaitsInstall new tx t) same (awaits is t));
          },
        )

    decided_place : (t : ℕ) (p : Place) → slice_get m.places t ≡ Some p → IsPlace n d t p
    decided_place t p at =
        let is = s.places t p at in
        record {
          number = is.number;
          entries = is.entries;
          handles = λ i member. handle_stays i (is.handles i member);
          apart = is.apart;
          part = decided_part t p p.part is.part;
        }

    open_there : (o : Option Open) → IsStep m c o → (q : Open) → o ≡ Some q
        → IsStep n d (Some (record { tx = tx; phase = phase_after told }))
    open_there None is q e = absurd cc
    open_there (Some o) is q e =
        let mine : o.tx ≡ tx = step_own m c tx no_other (Some o) is o refl in (
          is.0,
          is.1 ∙ ap (λ i. Some (record { tx = i; gathered = is.0 })) mine,
          v.phase n d (record { tx = tx; phase = phase_after told }) refl refl,
        )

    pub decision_due : (t : ℕ) (p : Place) → slice_get m.places t ≡ Some p → p.part ≡ Due
        → (e : CoreState) × MayStep c (Decide tx) (reply_after told) e
        × StandsFor (record m { certifier = new; step = Some (record { tx = tx; phase = phase_after told }) }) e
    decision_due t p at is =
        let here : (o : Open) × IsDueAt m c t p o = subst (IsPart m c t p) is (s.places t p at).part in
        let count = site_count m c s in
        let lt = slice_get_within m.places t p at in
        let open_still : decided c tx v.certifier v.due ≡ d =
        stays_open d tx t (omega (arith, lt, count)) (v.some t (due_touched t p here.0 here.1)) in
        let may : MayStep c (Decide tx) (reply_after told) d =
        subst (MayStep c (Decide tx) (reply_after told)) open_still v.may in (
          d,
          may,
          record {
            reached = reached_more c (Decide tx) (reply_after told) d s.reached may;
            sites = s.sites;
            items = s.items;
            certifier = v.carries;
            before = before_same ∙ s.before;
            begun = begun_same ∙ s.begun;
            window = s.window;
            unborn = s.unborn;
            running = λ j o there. decided_slot j o (s.running j o there);
            places = decided_place;
            step = open_there m.step s.step here.0 here.1.open_step;
          },
        )

  -- ---- where none is

  module _ (last : State) (finishes : last ≡ record (with_finished new tx) { installs = [] })
      (none : (t : ℕ) (p : Place) → slice_get m.places t ≡ Some p → p.part ≡ Due → ⊥) where
    abbrev b : Parts
    b = record m { certifier = last; table = slice_set m.table slot None; step = None }

    abbrev f : CoreState
    f = ended_state c tx v.certifier

    kept_active : (i : ℕ) → Contains (with_finished v.certifier tx).active i → Contains c.certifier.active i
    kept_active i there =
        subst (λ xs. Contains xs i) active_same (filter_member (λ j. not (j == tx)) v.certifier.active i there).0

    still_active : (i : ℕ) → (i ≡ tx → ⊥) → Contains c.certifier.active i
        → Contains (with_finished v.certifier tx).active i
    still_active i other there =
        member_filter (λ j. not (j == tx)) v.certifier.active i (subst (λ xs. Contains xs i) (sym active_same) there)
        (ap not (ne_eqb i tx other))

    ended_out : Contains (with_finished v.certifier tx).active tx → ⊥
    ended_out there = true≢false (sym (filter_member (λ j. not (j == tx)) v.certifier.active tx there).1
        ∙ ap not (eq-eqb tx tx refl))

    ended_slot : (j : ℕ) (o : Option Running) → (j ≡ slot → ⊥) → RunsAt c m.before j o → RunsAt f m.before j o
    ended_slot j None other out = λ there. out (kept_active (suc (m.before + j)) there)
    ended_slot j (Some w) other is = record {
      active = still_active (suc (m.before + j)) (λ e. let number = h.0 in other (omega (arith, e, number))) is.active;
      handle = is.handle ∙ ap (λ g. record { index = j; generation = g }) (sym generation_same);
      rising = is.rising;
      used = is.used;
      changes = is.changes;
      reads = is.reads;
    }

    ended_running : (j : ℕ) (o : Option Running) → slice_get (slice_set m.table slot None) j ≡ Some o
        → RunsAt f m.before j o
    ended_running j o at = elim (cases_eq j slot) [
      | inl is ↦
          let here : slice_get (slice_set m.table slot None) slot ≡ Some None =
          get-slice_set_same m.table slot None (slice_get_within m.table slot _ h.1.1) in
          let same : None ≡ o =
          same_Some None o (sym here ∙ (ap (slice_get (slice_set m.table slot None)) (sym is) ∙ at)) in
          subst (λ w. RunsAt f m.before j w) same
          (λ there. ended_out (subst (Contains (with_finished v.certifier tx).active)
          (ap (λ i. suc (m.before + i)) is ∙ sym h.0) there))
      | inr ne ↦ ended_slot j o ne (s.running j o (sym (get-slice_set_other m.table slot j None ne) ∙ at))
    ]

    ended_part : (t : ℕ) (p : Place) → slice_get m.places t ≡ Some p → (part : Part) → p.part ≡ part
        → IsPart m c t p part → IsPart b f t p part
    ended_part t p at Idle e is = (is.0, refl, λ member. contains-none t member)
    ended_part t p at Written e is = absurd (not_written _ is.decided)
    ended_part t p at Due e is = absurd (none t p at e)

    ended_place : (t : ℕ) (p : Place) → slice_get m.places t ≡ Some p → IsPlace b f t p
    ended_place t p at =
        let is = s.places t p at in
        record {
          number = is.number;
          entries = is.entries;
          handles = λ i member. handle_stays i (is.handles i member);
          apart = is.apart;
          part = ended_part t p at p.part refl is.part;
        }

    nowhere_due : (t : ℕ) → v.due t ≡ []
    nowhere_due t = elim (cases_Bool (touches c tx t)) [
      | inl hit ↦ absurd (gathered_out t hit)
      | inr miss ↦ v.none t miss
    ]
      where
        by_part : (t : ℕ) (p : Place) → slice_get m.places t ≡ Some p → (part : Part) → p.part ≡ part
            → IsPart m c t p part → Contains (gathered_in c.step) t → ⊥
        by_part t p at Idle e is member = is.2 member
        by_part t p at Written e is member = not_written _ is.decided
        by_part t p at Due e is member = none t p at e

        gathered_out : (t : ℕ) → touches c tx t ≡ true → ⊥
        gathered_out t hit =
            let inside : t < length c.items =
            below (length c.items) t (λ out. true≢false (sym hit
            ∙ untouched_outside c tx t k.sound.walked k.sound.legal out)) in
            let count = site_count m c s in
            let p = within_at m.places t (omega (arith, inside, count)) in
            by_part t p.0 p.1 p.0.part refl (s.places t p.0 p.1).part (everywhere t hit)
          where
            below : (n t : ℕ) → (n ≤ t → ⊥) → t < n
            below n t out = omega (arith, out)

    pub decision_ends : (e : CoreState) × MayStep c (Decide tx) (reply_after told) e
        × StandsFor (record m { certifier = last; table = slice_set m.table slot None; step = None }) e
    decision_ends =
        let closed : decided c tx v.certifier v.due ≡ f = closes (decided_state c v.certifier v.due) tx nowhere_due in
        let may : MayStep c (Decide tx) (reply_after told) f =
        subst (MayStep c (Decide tx) (reply_after told)) closed v.may in (
          f,
          may,
          record {
            reached = reached_more c (Decide tx) (reply_after told) f s.reached may;
            sites = s.sites;
            items = s.items;
            certifier = subst (λ (st : State). Carries st (with_finished v.certifier tx)) (sym finishes)
                (record {
                  same = ap (λ (st : State). with_finished st tx) v.carries.same;
                  noted =
                      ended_noted new v.certifier (record (with_finished new tx) { installs = [] })
                      (with_finished v.certifier tx) v.carries.noted refl refl (λ j m. m);
                  fewer = v.carries.fewer;
                  lead = v.carries.lead;
                });
            before = before_same ∙ s.before;
            begun = begun_same ∙ s.begun;
            window = s.window ∙ ap (λ j. m.before + j) (sym (length-set m.table slot None));
            unborn = s.unborn;
            running = ended_running;
            places = ended_place;
            step = (refl, refl);
          },
        )
