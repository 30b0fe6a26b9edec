-- A transaction begins, and a window is closed.
use Rattle.std.proofs.Common.{◌≡◌, ◌<◌, ◌≤◌, ◌+◌, ◌-◌, ℕ, suc, zero, List, [], ◌∷◌, ◌++◌, length, refl, sym, ◌∙◌, arith, inl, inr, All, Contains, Option, Some, None, subst, ap, ap₂, lit<, append-nil}
use Rattle.std.specs.Prelude.{slice_get}
use Rattle.std.specs.declared.cmp.Ordering.TheVariants.{Less}
use Rattle.std.proofs.lemmas.List.{length_push}
use Rattle.std.proofs.lemmas.List.Elements.{Contains-append_cases, Contains-append_left, Contains-append_right}
use Rattle.std.proofs.lemmas.Option.{same_Some}
use Rattle.sgt_names.specs.Draft.{place_of, place_cmp, AreRising, IsUsed, at_site, kept_in, writing_in}
use Rattle.sgt_names.specs.declared.entry.Entry.TheVariants as entry
use Rattle.sgt_names.specs.declared.draft.Touch.{Touch}
use Rattle.sgt_names.proofs.Lists.{list_cases}
use Rattle.sgt_names.proofs.Places.{Contains-from_at, All-from_at, AllPairs-from_at}
use Rattle.sgt_arena.specs.declared.handle.Handle.{Handle}
use Rattle.sgt_site.specs.State.{KeepsReads}
use Rattle.sgt_site.specs.declared.cell.Install.{Install}
use Rattle.sgt_certifier.specs.Certifier.{State, with_begun, with_closed, serial}
use Rattle.sgt_certifier.specs.History.{close, IsAllowed as IsRequestAllowed, Serves}
use Rattle.sgt_certifier.specs.Kept.{IsTold}
use Rattle.sgt_certifier.specs.declared.call.Call.TheVariants as call
use Rattle.sgt_certifier.specs.declared.call.CertifierFault.{CertifierFault}
use Rattle.sgt_certifier.specs.declared.call.CertifierFault.TheVariants as told
use Rattle.sgt_certifier.proofs.Members.{place_cases, cons_here}
use Rattle.sgt_notation.specs.declared.event.Event.TheVariants.{Begin, Close}
use Rattle.sgt_core_model.specs.declared.reply.Reply.TheVariants.{Begun, Closed, Fault}
use Rattle.sgt_core_model.specs.declared.reply.CoreFault.{CoreFault}
use Rattle.sgt_core_model.specs.declared.reply.CoreFault.TheVariants as fault
use Rattle.sgt_core_machine.specs.declared.machine.Running.{Running}
use Rattle.sgt_core_machine.specs.declared.machine.Place.{Place}
use Rattle.sgt_core_machine.specs.declared.machine.Open.{Open}
use Rattle.sgt_core_model.specs.Core.{CoreState}
use Rattle.sgt_core_model.specs.Step.{Fails, fault_place, IsAllowed, MayStep}
use Rattle.sgt_core_machine.specs.Machine.{Parts, Carries, IsRunning, RunsAt, IsHandleOf, IsPlace, IsStep, StandsFor, close_fault}
use Rattle.sgt_core_model.proofs.Kept.{IsKept}
use Rattle.sgt_core_machine.proofs.Standing.{reached_more, reached_kept, core_closed, certifier_closed, part_closed}
use Rattle.sgt_core_machine.proofs.Noting.{same_noted}
use Rattle.sgt_names.proofs.Elements.{contains-none, contains-cases}

-- ---- a transaction begins

pub carries_begun : (s t : State) → Carries s t → Carries (with_begun s) (with_begun t)
carries_begun s t h = record {
  noted = same_noted s t (with_begun s) (with_begun t) h.noted refl refl refl (λ j m. m);
  same = ap with_begun h.same;
  fewer = h.fewer;
  lead = h.lead;
}

-- none was read by one that isn't begun
unread_by : (c : CoreState) → IsKept c → (s tx : ℕ) → c.certifier.begun < tx → KeepsReads (c.entries s) tx []
unread_by c k s tx lt x v n = (
  λ m. absurd (contains-none _ m),
  λ h. absurd (let le = k.sound.ordered.begun s (entry.Read tx x v) (Contains-from_at (c.entries s) h.place _ h.at) in
      omega arith),
)

begin_allowed : (m : Parts) (c : CoreState) (h : Handle) (tx : ℕ) (new : State) → StandsFor m c → m.step ≡ None
    → Serves m.certifier (call.Begin tx h) new → IsAllowed c Begin
begin_allowed m c h tx new s none serves fault.Unknown f = absurd (let e = f.1 in cc)
begin_allowed m c h tx new s none serves fault.Ended f = absurd (let e = f.1 in cc)
begin_allowed m c h tx new s none serves fault.StepOpen f = f (core_closed m c s none)
begin_allowed m c h tx new s none serves fault.WindowFull f =
    let begun = ap (λ (st : State). st.begun) s.certifier.same in
    let before = ap (λ (st : State). st.before) s.certifier.same in
    serves.0 told.WindowFull (omega (arith, f, begun, before))
begin_allowed m c h tx new s none serves fault.NumbersSpent f =
    let begun = ap (λ (st : State). st.begun) s.certifier.same in
    serves.0 told.NumbersSpent (omega (arith, f, begun))
begin_allowed m c h tx new s none serves _ f = f

abbrev pub begun_parts : Parts → State → Running → Parts
begun_parts m new r = record m { certifier = new; begun = m.begun + 1; table = m.table ++ Some r ∷ [] }

abbrev pub begun_state : CoreState → CoreState
begun_state c = record c { certifier = with_begun c.certifier }

module _ (m : Parts) (c : CoreState) (s : StandsFor m c) (none : m.step ≡ None) (r : Running) (new : State) (tx : ℕ)
    (serves : Serves m.certifier (call.Begin tx r.handle) new) (empty : r.draft.touched ≡ []) where
  begun_number : tx ≡ suc c.certifier.begun
  begun_number = serves.1.0 ∙ ap (λ (st : State). suc st.begun) (sym s.certifier.same)

  slot_stays : (k : ℕ) (slot : Option Running) → k < length m.table → RunsAt c m.before k slot
      → RunsAt (begun_state c) m.before k slot
  slot_stays k None lt out = λ there.
      let window = s.window in
      let begun = s.begun in
      elim (Contains-append_cases c.certifier.active (suc c.certifier.begun ∷ []) _ there) [
        | inl was ↦ out was
        | inr n ↦ elim (contains-cases (suc c.certifier.begun) [] _ n) [
          | inl is ↦ omega (arith, is, lt)
          | inr none_left ↦ contains-none _ none_left
        ]
      ]
  slot_stays k (Some q) lt h = record {
    active = Contains-append_left c.certifier.active _ _ h.active;
    handle =
        h.handle;
    rising = h.rising;
    used = h.used;
    changes = h.changes;
    reads = h.reads;
  }

  begun_here : (k : ℕ) → k ≡ length m.table + 0 → IsRunning (begun_state c) m.before k r
  begun_here k is =
      let window = s.window in
      let begun = s.begun in
      let before = s.before in
      let number : suc (m.before + k) ≡ suc c.certifier.begun = omega arith in
      let gen = ap (λ (st : State). st.generation) s.certifier.same in
      let first = ap (λ (st : State). st.begun) s.certifier.same in
      let lowest = ap (λ (st : State). st.before) s.certifier.same in
      let index : m.certifier.begun - m.certifier.before ≡ k = omega arith in
      let bare : (t : ℕ) → at_site t r.draft.touched ≡ [] = λ t. ap (at_site t) empty in
      let new_handle : r.handle ≡ record { index = k; generation = c.certifier.generation } =
      serves.1.1 ∙ ap₂ (λ (a b : ℕ). record { index = a; generation = b }) index (sym gen) in
      record {
        active = subst (Contains (c.certifier.active ++ suc c.certifier.begun ∷ [])) (sym number)
            (Contains-append_right c.certifier.active _ _ (cons_here (suc c.certifier.begun) []));
        handle = new_handle;
        rising = subst AreRising (sym empty)
            (AllPairs-from_at (λ (a b : Touch). place_cmp (place_of a) (place_of b) ≡ Less) []
            (λ p q a b lt at_p at_q. absurd cc));
        used = subst (All IsUsed) (sym empty) (All-from_at IsUsed [] (λ n a at. absurd cc));
        changes = λ t. s.unborn (suc (m.before + k)) t (omega arith) ∙ sym (ap writing_in (bare t));
        reads = λ t. subst (λ (ts : List Touch). KeepsReads (c.entries t) (suc (m.before + k)) (kept_in ts))
            (sym (bare t)) (unread_by c (reached_kept c s.reached) t (suc (m.before + k)) (omega arith));
      }

  slot_last : (k : ℕ) (slot : Option Running) (n : ℕ) → k ≡ length m.table + n → slice_get (Some r ∷ []) n ≡ Some slot
      → RunsAt (begun_state c) m.before k slot
  slot_last k slot zero is at = subst (λ o. RunsAt (begun_state c) m.before k o) (same_Some (Some r) slot at)
      (begun_here k is)
  slot_last k slot (suc n) is at = absurd cc

  begun_slot : (k : ℕ) (slot : Option Running) → slice_get (m.table ++ Some r ∷ []) k ≡ Some slot
      → RunsAt (begun_state c) m.before k slot
  begun_slot k slot at = elim (place_cases m.table (Some r ∷ []) k slot at) [
    | inl old ↦ slot_stays k slot old.0 (s.running k slot old.1)
    | inr last ↦ slot_last k slot last.0 last.1 last.2
  ]

  begun_place : (n : ℕ) (p : Place) → slice_get m.places n ≡ Some p → IsPlace (begun_parts m new r) (begun_state c) n p
  begun_place n p at =
      let h = s.places n p at in
      let closed = core_closed m c s none in
      record {
        number = h.number;
        entries = h.entries;
        handles = h.handles;
        apart = h.apart;
        part =
            part_closed m (begun_parts m new r) c (begun_state c) n p p.part h.part none closed closed refl;
      }

  pub begin_goes : (d : CoreState) × MayStep c Begin (Begun tx) d × StandsFor (begun_parts m new r) d
  begin_goes =
      let may : MayStep c Begin (Begun tx) (begun_state c) =
      (begin_allowed m c r.handle tx new s none serves, (begun_number, refl)) in
      let begun = s.begun in
      let window = s.window in
      let long = length_push m.table (Some r) in (
        begun_state c,
        may,
        record {
          reached = reached_more c Begin (Begun tx) (begun_state c) s.reached may;
          sites = s.sites;
          items = s.items;
          certifier = subst (λ (st : State). Carries st (with_begun c.certifier)) (sym serves.1.2)
              (carries_begun m.certifier c.certifier s.certifier);
          before = s.before;
          begun = omega arith;
          window = omega arith;
          unborn = λ t n lt. s.unborn t n (omega arith);
          running = begun_slot;
          places = begun_place;
          step = subst (λ (o : Option Open). IsStep (begun_parts m new r) (begun_state c) o) (sym none)
              (core_closed m c s none, certifier_closed m c s none);
        },
      )

-- ---- the window is closed

pub carries_closed : (s t : State) → Carries s t → Carries (with_closed s) (with_closed t)
carries_closed s t h =
    record {
      noted =
          same_noted s t (with_closed s) (with_closed t) h.noted refl refl refl
          (λ j m. subst (λ xs. Contains xs j) (sym (append-nil (serial t))) m);
      same = ap with_closed h.same;
      fewer =
          λ arc m. m;
      lead = λ a b j. absurd (contains-none _ j.1);
    }

close_allowed : (m : Parts) (c : CoreState) → StandsFor m c → m.step ≡ None → IsRequestAllowed m.certifier close
    → IsAllowed c Close
close_allowed m c s none may fault.Unknown f = absurd (let e = f.1 in cc)
close_allowed m c s none may fault.Ended f = absurd (let e = f.1 in cc)
close_allowed m c s none may fault.StepOpen f = f (core_closed m c s none)
close_allowed m c s none may fault.ActiveLeft f = elim (list_cases m.certifier.active) [
  | inl empty ↦ f (ap (λ (st : State). st.active) s.certifier.same ∙ empty)
  | inr some ↦ may (told.ActiveLeft (length m.certifier.active)) (refl, rw some.2 (omega arith))
]
close_allowed m c s none may fault.GenerationsSpent f =
    let gen = ap (λ (st : State). st.generation) s.certifier.same in
    may told.GenerationsSpent (omega (arith, f, gen))
close_allowed m c s none may _ f = f

-- nobody is active where the certifier doesn't say so
quiet : (m : Parts) (c : CoreState) → StandsFor m c → ((n : ℕ) → ((length m.certifier.active ≡ n) × (1 ≤ n)) → ⊥)
    → c.certifier.active ≡ []
quiet m c s out = elim (list_cases m.certifier.active) [
  | inl empty ↦ ap (λ (st : State). st.active) s.certifier.same ∙ empty
  | inr some ↦ absurd (out (length m.certifier.active) (refl, rw some.2 (omega arith)))
]

no_active : (xs : List ℕ) (n : ℕ) → length xs ≡ n → 1 ≤ n → xs ≡ [] → ⊥
no_active xs n long some none = let e = ap (length {A = ℕ}) none in omega (arith, e, long)

active_first : (m : Parts) (c : CoreState) → StandsFor m c → m.step ≡ None → (g : CoreFault) → fault_place g < 8
    → Fails c Close g → ⊥
active_first m c s none fault.Unknown lt f = let e = f.1 in absurd cc
active_first m c s none fault.Ended lt f = let e = f.1 in absurd cc
active_first m c s none fault.StepOpen lt f = f (core_closed m c s none)
active_first m c s none fault.ActiveLeft lt f = absurd (omega arith)
active_first m c s none fault.GenerationsSpent lt f = absurd (omega arith)
active_first m c s none _ lt f = f

generation_first : (m : Parts) (c : CoreState) → StandsFor m c → m.step ≡ None → c.certifier.active ≡ []
    → (g : CoreFault) → fault_place g < 10 → Fails c Close g → ⊥
generation_first m c s none quiet fault.ActiveLeft lt f = f quiet
generation_first m c s none quiet fault.Unknown lt f = let e = f.1 in absurd cc
generation_first m c s none quiet fault.Ended lt f = let e = f.1 in absurd cc
generation_first m c s none quiet fault.StepOpen lt f = f (core_closed m c s none)
generation_first m c s none quiet fault.GenerationsSpent lt f = absurd (omega arith)
generation_first m c s none quiet _ lt f = f

pub close_refused : (m : Parts) (c : CoreState) (f : CertifierFault) → StandsFor m c → m.step ≡ None
    → IsTold m.certifier close f
    → MayStep c Close (Fault (close_fault f)) c
close_refused m c (told.ActiveLeft n) s none t = (
  (
    λ e. no_active m.certifier.active n t.0.0 t.0.1 (sym (ap (λ (st : State). st.active) s.certifier.same) ∙ e),
    active_first m c s none,
  ),
  refl,
)
close_refused m c told.GenerationsSpent s none t =
    let gen = ap (λ (st : State). st.generation) s.certifier.same in (
      (omega (arith, t.0, gen), generation_first m c s none (quiet m c s (λ n h. t.1 (told.ActiveLeft n) (lit< tt) h))),
      refl,
    )
close_refused m c told.Memory s none t = (close_allowed m c s none t, refl)
close_refused m c (told.StepOpen tx) s none t =
    absurd (let e : Some tx ≡ None = sym t.0 ∙ (sym (ap (λ (st : State). st.step) s.certifier.same)
    ∙ certifier_closed m c s none) in cc)
close_refused m c told.WindowFull s none t = absurd t.0
close_refused m c told.Unknown s none t = absurd t.0
close_refused m c told.Stale s none t = absurd t.0
close_refused m c told.NumbersSpent s none t = absurd t.0

abbrev pub closed_parts : Parts → State → Parts
closed_parts m new = record m { certifier = new; before = m.begun; table = [] }

abbrev pub closed_state : CoreState → CoreState
closed_state c = record c { certifier = with_closed c.certifier }

module _ (m : Parts) (c : CoreState) (s : StandsFor m c) (none : m.step ≡ None) (new : State) (ranks : ℕ)
    (serves : Serves m.certifier (call.Close ranks) new) where
  closed_handle : (i : Install) → IsHandleOf c.certifier i → IsHandleOf (with_closed c.certifier) i
  closed_handle i (inl here) =
      let window = (reached_kept c s.reached).sound.ordered.certifier.order_here i.tx here.2 in
      inr (omega (arith, here.0), window.1)
  closed_handle i (inr older) =
      let window = (reached_kept c s.reached).sound.ordered.certifier.window in
      inr (omega (arith, older.0), omega (arith, older.1))

  closed_place : (n : ℕ) (p : Place) → slice_get m.places n ≡ Some p → IsPlace (closed_parts m new) (closed_state c) n p
  closed_place n p at =
      let h = s.places n p at in
      let closed = core_closed m c s none in
      record {
        number = h.number;
        entries = h.entries;
        handles = λ i there. closed_handle i (h.handles i there);
        apart = h.apart;
        part = part_closed m (closed_parts m new) c (closed_state c) n p p.part h.part none closed closed refl;
      }

  pub close_goes : (d : CoreState) × MayStep c Close (Closed ranks) d × StandsFor (closed_parts m new) d
  close_goes =
      let given = serves.1.0 ∙ ap (λ (st : State). length (serial st)) (sym s.certifier.same) in
      let may : MayStep c Close (Closed ranks) (closed_state c) =
      (close_allowed m c s none serves.0, (given, refl)) in (
        closed_state c,
        may,
        record {
          reached = reached_more c Close (Closed ranks) (closed_state c) s.reached may;
          sites = s.sites;
          items = s.items;
          certifier = subst (λ (st : State). Carries st (with_closed c.certifier)) (sym serves.1.1)
              (carries_closed m.certifier c.certifier s.certifier);
          before = s.begun;
          begun = s.begun;
          window = omega arith;
          unborn = s.unborn;
          running = λ k slot at. absurd cc;
          places = closed_place;
          step = subst (λ (o : Option Open). IsStep (closed_parts m new) (closed_state c) o) (sym none)
              (core_closed m c s none, certifier_closed m c s none);
        },
      )
