-- The open step ends behind its last block, and stays open before.
use Rattle.std.proofs.Common.{◌≡◌, ◌<◌, ◌+◌, ℕ, suc, Bool, true, false, List, [], ◌∷◌, length, map, refl, sym, ◌∙◌, arith, inl, inr, Contains, Option, Some, None, subst, ap}
use Rattle.std.specs.Prelude.{slice_get, slice_set, not, ◌==◌, Any}
use Rattle.std.specs.List.{list_all}
use Rattle.std.proofs.lemmas.Bool.{cases_Bool, cases_eq, eq-eqb, ne_eqb, true≢false}
use Rattle.std.proofs.lemmas.List.{length-map, length-set}
use Rattle.std.proofs.lemmas.Option.{same_Some, slice_get_within}
use Rattle.sgt_names.proofs.Lists.{Any_at, Any-from_at, within_at}
use Rattle.sgt_certifier.specs.Certifier.{State, with_finished}
use Rattle.sgt_certifier.proofs.Members.{cons_here, filter_member, member_filter}
use Rattle.sgt_notation.specs.declared.event.Event.TheVariants.{Install as Write}
use Rattle.sgt_core_model.specs.declared.reply.Reply.TheVariants.{Installed}
use Rattle.sgt_core_machine.specs.declared.machine.Place.{Place}
use Rattle.sgt_core_machine.specs.declared.machine.Part.{Part}
use Rattle.sgt_core_machine.specs.declared.machine.Part.TheVariants.{Idle, Due, Written}
use Rattle.sgt_core_machine.specs.declared.machine.Running.{Running}
use Rattle.sgt_core_machine.specs.declared.machine.Open.{Open}
use Rattle.sgt_step.specs.declared.one_site.Ending.{Ending}
use Rattle.sgt_core_model.specs.Core.{CoreState, sites_of, is_empty, is_written, noted, installed}
use Rattle.sgt_core_model.specs.Step.{IsAllowed, MayStep}
use Rattle.sgt_core_machine.specs.Machine.{Parts, Carries, RunsAt, IsPart, IsPlace, IsStep, StandsFor}
use Rattle.sgt_core_machine.specs.private.Installing.{IsAnotherDue, Writes, Ends}
use Rattle.sgt_core_model.proofs.Committing.{in_range}
use Rattle.sgt_core_model.proofs.LegalSteps.{all_pass, empty_is}
use Rattle.sgt_core_model.proofs.Runs.{is_site}
use Rattle.sgt_core_machine.proofs.Standing.{reached_more}
use Rattle.sgt_core_machine.proofs.InstallBlocks.{written_state, IsToWrite, due_some, written_places, written_running, written_items, written_carries, written_stands}
use Rattle.sgt_core_machine.proofs.Noting.{ended_noted}
use Rattle.sgt_names.proofs.Elements.{get-slice_set_same, get-slice_set_other, contains-later, contains-none}

-- the block of the open step is still due at the site
abbrev pub IsDueThere : Place → Type 0
IsDueThere place = place.part ≡ Due

-- a block that is due at another site is so after one is written
pub another_left : (verdict : Ending) (m n : Parts) (t slot tx : ℕ) → Writes verdict m n t slot tx
    → IsAnotherDue m.places t → Any IsDueThere n.places
another_left verdict m n t slot tx h a =
    Any-from_at IsDueThere n.places a.other a.place
    (ap (λ ps. slice_get ps a.other) h.block.is ∙ (get-slice_set_other m.places t a.other _ a.apart ∙ a.there)) a.due

all_true : (p : ℕ → Bool) (xs : List ℕ) → ((x : ℕ) → Contains xs x → p x ≡ true) → list_all p xs ≡ true
all_true p [] h = refl
all_true p (x ∷ xs) h = rw (h x (cons_here x xs)) (all_true p xs (λ y member. h y (contains-later x xs y member)))

carries_finished : (s t : State) (i : ℕ) → Carries s t
    → Carries (record (with_finished s i) { installs = [] }) (with_finished t i)
carries_finished s t i h = record {
  same = ap (λ st. with_finished st i) h.same;
  noted =
      ended_noted s t (record (with_finished s i) { installs = [] }) (with_finished t i) h.noted refl refl (λ j m. m);
  fewer = h.fewer;
  lead = h.lead;
}

module _ (m : Parts) (c : CoreState) (s : StandsFor m c) (verdict : Ending) (tx slot t : ℕ)
    (w : IsToWrite m c verdict tx slot t) (n : Parts) (h : Writes verdict m n t slot tx) where
  abbrev d : CoreState
  d = written_state c tx t

  places : (u : ℕ) (v : Place) → slice_get n.places u ≡ Some v → IsPlace n d u v
  places = written_places m c s verdict tx slot t w n h

  site_count : length c.items ≡ length n.places
  site_count = ap length (written_items m c s verdict tx slot t w n h)
      ∙ length-map n.places (λ (v : Place). v.site.items)

  step_there : n.step ≡ Some w.open_step
  step_there = ap (λ (v : Parts). v.step) h.is ∙ w.is

  -- ---- a block is still due

  still_due : (u : ℕ) (v : Place) → slice_get n.places u ≡ Some v → v.part ≡ Due → d.due u ≡ [] → ⊥
  still_due u v at is none =
      let due = subst (IsPart n d u v) is (places u v at).part in
      let same : due.0 ≡ w.open_step = same_Some due.0 w.open_step (sym due.1.open_step ∙ step_there) in
      let verdict_is = ap (λ (x : Open). Rattle.sgt_core_machine.specs.private.Installing.verdict_in x.phase) same
      ∙ w.verdict_is in
      due_some n d due.0.tx due.1.running.draft.touched u verdict due.0.phase verdict_is due.1.due none

  unwritten : Any IsDueThere n.places → is_written d ≡ false
  unwritten some =
      let a = Any_at IsDueThere n.places some in
      let lt = slice_get_within n.places a.0 a.1 a.2 in
      let count = site_count in
      elim (cases_Bool (is_written d)) [
        | inl done ↦ absurd
            (still_due a.0 a.1 a.2 a.3
            (empty_is (d.due a.0) (all_pass (λ u. is_empty (d.due u)) (sites_of d) a.0 done
            (is_site d a.0 (omega (arith, lt, count))))))
        | inr left ↦ left
      ]

  pub open_goes : IsAllowed c (Write tx t) → Any IsDueThere n.places
      → (e : CoreState) × MayStep c (Write tx t) Installed e × StandsFor n e
  open_goes allowed some =
      let left = unwritten some in
      let is : written_state c tx t ≡ installed c tx t = rw left refl in
      let may : MayStep c (Write tx t) Installed (written_state c tx t) = (allowed, is) in (
        written_state c tx t,
        may,
        written_stands m c s verdict tx slot t w n h
            (reached_more c (Write tx t) Installed (written_state c tx t) s.reached may),
      )

  -- ---- none is

  module _ (none : Any IsDueThere n.places → ⊥) where
    not_due : (u : ℕ) (v : Place) → slice_get n.places u ≡ Some v → v.part ≡ Due → ⊥
    not_due u v at is = none (Any-from_at IsDueThere n.places u v at is)

    nothing_due : (u : ℕ) (v : Place) (part : Part) → (part ≡ Due → ⊥) → IsPart n d u v part
        → (v.site.pledge ≡ None) × (d.due u ≡ [])
    nothing_due u v Idle out g = (g.0, g.1)
    nothing_due u v Due out g = absurd (out refl)
    nothing_due u v Written out g = (g.pledge, g.due)

    all_written : is_written d ≡ true
    all_written = all_true (λ u. is_empty (d.due u)) (sites_of d) (λ u member.
        let lt = (in_range 0 (length c.items) u member).1 in
        let count = site_count in
        let v = within_at n.places u (omega (arith, lt, count)) in
        ap is_empty (nothing_due u v.0 v.0.part (not_due u v.0 v.1) (places u v.0 v.1).part).1)

    abbrev f : CoreState
    f = record d { certifier = with_finished d.certifier tx; step = None; due = λ u. [] }

    module _ (e : Parts) (ends : Ends n e slot tx) where
      new_places : (u : ℕ) (v : Place) → slice_get e.places u ≡ Some v → IsPlace e f u v
      new_places u v at =
          let lt = slice_get_within e.places u v at in
          let long = ends.places.long in
          let found = within_at n.places u (omega (arith, lt, long)) in
          let is : v ≡ record found.0 { part = Idle } = ends.places.each u found.0 v found.1 at in
          let g = places u found.0 found.1 in
          let clear = nothing_due u found.0 found.0.part (not_due u found.0 found.1) g.part in
          subst (IsPlace e f u) (sym is) (record {
            number = g.number;
            entries = g.entries;
            handles = g.handles;
            apart = g.apart;
            part = (clear.0, refl, λ member. contains-none u member);
          })

      freed : Contains f.certifier.active (suc (n.before + slot)) → ⊥
      freed member =
          let passed = (filter_member (λ a. not (a == tx)) d.certifier.active (suc (n.before + slot)) member).1 in
          let before = ap (λ (x : Parts). x.before) h.is in
          let number = w.number in
          let same : suc (n.before + slot) ≡ tx = omega (arith, before, number) in
          true≢false (sym passed ∙ ap not (eq-eqb (suc (n.before + slot)) tx same))

      stays : (j : ℕ) (x : Option Running) → (j ≡ slot → ⊥) → RunsAt d n.before j x → RunsAt f n.before j x
      stays j None ne g =
          λ member. g (filter_member (λ a. not (a == tx)) d.certifier.active (suc (n.before + j)) member).0
      stays j (Some r) ne g =
          let before = ap (λ (x : Parts). x.before) h.is in
          let number = w.number in
          let other : suc (n.before + j) ≡ tx → ⊥ = λ is. ne (omega (arith, is, before, number)) in
          record {
            active = member_filter (λ a. not (a == tx)) d.certifier.active (suc (n.before + j)) g.active
                (ap not (ne_eqb (suc (n.before + j)) tx other));
            handle = g.handle;
            rising = g.rising;
            used = g.used;
            changes = g.changes;
            reads = g.reads;
          }

      in_table : (j : ℕ) (x : Option Running) → slice_get (slice_set n.table slot None) j ≡ Some x
          → RunsAt f n.before j x
      in_table j x at = elim (cases_eq j slot) [
        | inl is ↦
            let there = ap (λ (v : Parts). slice_get v.table slot) h.is ∙ w.runs in
            let now : slice_get (slice_set n.table slot None) slot ≡ Some None =
            get-slice_set_same n.table slot None (slice_get_within n.table slot (Some w.running) there) in
            let same : None ≡ x =
            same_Some None x (sym now ∙ (ap (slice_get (slice_set n.table slot None)) (sym is) ∙ at)) in
            subst (RunsAt f n.before j) same (subst (λ i. RunsAt f n.before i None) (sym is) freed)
        | inr ne ↦ stays j x ne
            (written_running m c s verdict tx slot t w n h j x (sym (get-slice_set_other n.table slot j None ne) ∙ at))
      ]

      new_running : (j : ℕ) (x : Option Running) → slice_get e.table j ≡ Some x → RunsAt f e.before j x
      new_running j x at = subst (λ b. RunsAt f b j x) (ap (λ (v : Parts). v.before) (sym ends.is))
          (in_table j x (ap (λ (v : Parts). slice_get v.table j) (sym ends.is) ∙ at))

      same_items : map (λ (v : Place). v.site.items) e.places ≡ map (λ (v : Place). v.site.items) n.places
      same_items =
          each_item e.places n.places ends.places.long
          (λ u p q at_p at_q. ap (λ (v : Place). v.site.items) (ends.places.each u p q at_p at_q))
        where
          each_item : (ps qs : List Place) → length ps ≡ length qs
              → ((u : ℕ) (p q : Place) → slice_get qs u ≡ Some p → slice_get ps u ≡ Some q
              → q.site.items ≡ p.site.items)
              → map (λ (v : Place). v.site.items) ps ≡ map (λ (v : Place). v.site.items) qs
          each_item [] [] long each = refl
          each_item (q ∷ ps) [] long each = absurd (omega (arith, long))
          each_item [] (p ∷ qs) long each = absurd (omega (arith, long))
          each_item (q ∷ ps) (p ∷ qs) long each =
              ap (λ i. i ∷ map (λ (v : Place). v.site.items) ps) (each 0 p q refl refl)
              ∙ ap (λ is. p.site.items ∷ is) (each_item ps qs (omega (arith, long)) (λ u. each (suc u)))

      pub ended_goes : IsAllowed c (Write tx t) → (g : CoreState) × MayStep c (Write tx t) Installed g × StandsFor e g
      ended_goes allowed =
          let done = all_written in
          let state = Rattle.sgt_core_machine.proofs.InstallBlocks.noted-same c tx t in
          let is : f ≡ installed c tx t = rw done refl in
          let may : MayStep c (Write tx t) Installed f = (allowed, is) in
          let table = ap (λ (v : Parts). v.table) h.is in
          let begun : e.begun ≡ m.begun = ap (λ (v : Parts). v.begun) ends.is ∙ ap (λ (v : Parts). v.begun) h.is in
          let before : e.before ≡ m.before = ap (λ (v : Parts). v.before) ends.is ∙ ap (λ (v : Parts). v.before) h.is in
          let long : length e.table ≡ length m.table = ap (λ (v : Parts). length v.table) ends.is
          ∙ (length-set n.table slot None ∙ ap length table) in
          let window = s.window in (
            f,
            may,
            record {
              reached = reached_more c (Write tx t) Installed f s.reached may;
              sites = s.sites;
              items = written_items m c s verdict tx slot t w n h ∙ sym same_items;
              certifier = subst (λ (st : State). Carries st (with_finished (noted c tx t) tx)) (sym ends.ends.after)
                  (carries_finished n.certifier (noted c tx t) tx (written_carries m c s verdict tx slot t w n h));
              before = ap (λ (st : State). st.before) state ∙ (s.before ∙ sym before);
              begun = ap (λ (st : State). st.begun) state ∙ (s.begun ∙ sym begun);
              window = omega (arith, window, begun, before, long);
              unborn = λ i u lt. s.unborn i u (subst (λ b. b < i) begun lt);
              running = new_running;
              places = new_places;
              step = subst (IsStep e f) (sym (ap (λ (v : Parts). v.step) ends.is)) (refl, refl);
            },
          )
