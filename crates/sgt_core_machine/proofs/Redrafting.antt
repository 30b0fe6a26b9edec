-- An active transaction reads an item or is to change one: its draft and one log may grow, and nothing else changes.
use Rattle.std.proofs.Common.{◌≡◌, ◌≤◌, ◌+◌, ℕ, suc, List, map, refl, sym, ◌∙◌, arith, inl, inr, Contains, Option, Some, None, subst, ap}
use Rattle.std.specs.Prelude.{slice_get, slice_set}
use Rattle.std.proofs.lemmas.Bool.{cases_eq}
use Rattle.std.proofs.lemmas.List.{length-set}
use Rattle.std.proofs.lemmas.Option.{same_Some, slice_get_within}
use Rattle.sgt_names.specs.Name.{Name}
use Rattle.sgt_names.specs.Draft.{at_site, kept_in}
use Rattle.sgt_names.specs.declared.draft.Touch.{Touch}
use Rattle.sgt_names.specs.declared.entry.Change.{Change}
use Rattle.sgt_names.specs.declared.entry.Entry.{Entry}
use Rattle.sgt_names.proofs.Lists.{within_at}
use Rattle.sgt_site.specs.State.{KeepsReads}
use Rattle.sgt_certifier.specs.Certifier.{Arc}
use Rattle.sgt_core_machine.specs.declared.machine.Place.{Place}
use Rattle.sgt_core_machine.specs.declared.machine.Part.{Part}
use Rattle.sgt_core_machine.specs.declared.machine.Part.TheVariants.{Idle, Due, Written}
use Rattle.sgt_core_machine.specs.declared.machine.Running.{Running}
use Rattle.sgt_core_machine.specs.declared.machine.Open.{Open}
use Rattle.sgt_core_machine.specs.declared.machine.Phase.{Phase}
use Rattle.sgt_core_machine.specs.declared.machine.Phase.TheVariants.{Gathering, Committed, Refused}
use Rattle.sgt_core_model.specs.Core.{CoreState, IsEdgeOf}
use Rattle.sgt_core_model.specs.Step.{StepIs, IsOwnOpen}
use Rattle.sgt_core_machine.specs.Machine.{Parts, IsReached, IsRunning, RunsAt, IsDueBy, IsWrittenAt, IsPart, IsPlace, IsPhase, IsStep, StandsFor, IsSlotOf}
use Rattle.sgt_core_machine.proofs.Standing.{reached_kept}
use Rattle.sgt_core_machine.proofs.OwnHandles.{own_stays}
use Rattle.sgt_names.proofs.Elements.{get-slice_set_same, get-slice_set_other}

-- an active transaction was begun and is active
pub slot_begun : (m : Parts) (c : CoreState) (tx slot : ℕ) → StandsFor m c → IsSlotOf m tx slot → tx ≤ c.certifier.begun
slot_begun m c tx slot s h =
    let window = s.window in
    let begun = s.begun in
    let within = slice_get_within m.table slot (Some h.1.0) h.1.1 in
    omega (arith, h.0)

pub slot_active : (m : Parts) (c : CoreState) (tx slot : ℕ) → StandsFor m c → IsSlotOf m tx slot
    → Contains c.certifier.active tx
slot_active m c tx slot s h = let r = s.running slot (Some h.1.0) h.1.1 in
    subst (Contains c.certifier.active) (sym h.0) r.active

-- with the same table it has the same place
pub same_slot : (m n : Parts) (tx slot : ℕ) → IsSlotOf m tx slot → n.before ≡ m.before → n.table ≡ m.table
    → IsSlotOf n tx slot
same_slot m n tx slot h before table =
    (h.0 ∙ ap (λ b. suc (b + slot)) (sym before), (h.1.0, ap (λ ts. slice_get ts slot) table ∙ h.1.1))

-- and at its place of the table stands who is active
pub active_slot : (m : Parts) (c : CoreState) (tx slot : ℕ) → StandsFor m c → tx ≡ suc (m.before + slot)
    → tx ≤ c.certifier.begun → Contains c.certifier.active tx → IsSlotOf m tx slot
active_slot m c tx slot s number le active =
    let window = s.window in
    let begun = s.begun in
    let found = within_at m.table slot (omega (arith, window, begun, number, le)) in
    (number, by_slot found.0 found.1 (s.running slot found.0 found.1))
  where
    by_slot : (o : Option Running) → slice_get m.table slot ≡ Some o → RunsAt c m.before slot o
        → (r : Running) × (slice_get m.table slot ≡ Some (Some r))
    by_slot None at h = absurd (h (subst (Contains c.certifier.active) number active))
    by_slot (Some r) at h = (r, at)

-- a site with the same items, pledge and part, whose log is this one
pub record IsLike (p q : Place) (es : List Entry) : Type 0 where
  pub number : q.site.number ≡ p.site.number
  pub entries : es ≡ q.site.entries
  pub installed : q.site.installed ≡ p.site.installed
  pub pledge : q.site.pledge ≡ p.site.pledge
  pub part : q.part ≡ p.part

abbrev pub redrafted : CoreState → (ℕ → List Entry) → (ℕ → ℕ → List (Name × Change)) → CoreState
redrafted c entries changes = record c { entries = entries; changes = changes }

abbrev pub redraft_parts : Parts → List Place → ℕ → Running → Parts
redraft_parts m places slot q = record m { places = places; table = slice_set m.table slot (Some q) }

module _ (m : Parts) (c : CoreState) (s : StandsFor m c) (tx slot : ℕ) (number : tx ≡ suc (m.before + slot))
    (r q : Running) (there : slice_get m.table slot ≡ Some (Some r))
    (handle : q.handle ≡ r.handle) (closed : IsOwnOpen c tx → ⊥) (entries : ℕ → List Entry) (changes : ℕ → ℕ
    → List (Name × Change)) (places : List Place)
    (other_changes : (i t : ℕ) → (i ≡ tx → ⊥) → changes i t ≡ c.changes i t)
    (other_reads : (i t : ℕ) (kept : List (Name × ℕ × ℕ)) → (i ≡ tx → ⊥) → KeepsReads (c.entries t) i kept
    → KeepsReads (entries t) i kept)
    (other_edges : (i : ℕ) (arc : Arc) → (i ≡ tx → ⊥)
    → (IsEdgeOf c i arc → IsEdgeOf (redrafted c entries changes) i arc)
    × (IsEdgeOf (redrafted c entries changes) i arc → IsEdgeOf c i arc))
    (like : (t : ℕ) (q : Place) → slice_get places t ≡ Some q → (p : Place) × (slice_get m.places t ≡ Some p)
    × IsLike p q (entries t)) where
  abbrev d : CoreState
  d = redrafted c entries changes

  abbrev n : Parts
  n = redraft_parts m places slot q

  own_open : (o : Option Open) → IsStep m c o → (p : Open) → o ≡ Some p → p.tx ≡ tx → ⊥
  own_open None h p e is = absurd cc
  own_open (Some o) h p e is =
      let same : o ≡ p = same_Some o p e in
      closed (subst (StepIs (λ t. t ≡ tx)) (sym h.1) (ap (λ (w : Open). w.tx) same ∙ is))

  -- the open step is another's
  step_other : (o : Open) → m.step ≡ Some o → o.tx ≡ tx → ⊥
  step_other o is same = own_open m.step s.step o is same

  -- and so is what is decided
  step_decided : {t : ℕ} {p : Place} (h : IsWrittenAt m c t p) → suc (m.before + h.place) ≡ tx → ⊥
  step_decided h same = closed ((reached_kept c s.reached).together tx (h.decided ∙ ap Some same))

  slot_other : (k : ℕ) → (k ≡ slot → ⊥) → (suc (m.before + k) ≡ tx → ⊥)
  slot_other k ne e = ne (omega (arith, e, number))

  redraft_due : (o : Open) → (o.tx ≡ tx → ⊥) → (touched : List Touch) (t : ℕ) (phase : Phase)
      → IsDueBy m c o.tx touched phase t → IsDueBy n d o.tx touched phase t
  redraft_due o other touched t (Gathering edges) h = h
  redraft_due o other touched t Committed h =
      (h.0 ∙ ap (λ cs. Rattle.sgt_site.specs.State.commit_block o.tx cs) (sym (other_changes o.tx t other)), h.1)
  redraft_due o other touched t Refused h = h
      ∙ ap (λ cs. Rattle.sgt_site.specs.State.refuse_block o.tx cs) (sym (other_changes o.tx t other))

  redraft_part : (t : ℕ) (p w : Place) → IsLike p w (entries t) → (part : Part) → IsPart m c t p part
      → IsPart n d t w part
  redraft_part t p w l Idle h = (l.pledge ∙ h.0, h.1, h.2)
  redraft_part t p w l Written h =
      let own = step_decided h in
      let apart : h.place ≡ slot → ⊥ = λ e. own (ap (λ k. suc (m.before + k)) e ∙ sym number) in
      record {
        place = h.place;
        running = h.running;
        there = get-slice_set_other m.table slot h.place (Some q) apart ∙ h.there;
        decided = h.decided;
        gathered = h.gathered;
        touched = h.touched;
        pledge = l.pledge ∙ h.pledge;
        due = h.due;
      }
  redraft_part t p w l Due h =
      let o = h.0 in
      let a = h.1 in
      let other = step_other o a.open_step in
      let apart : a.place ≡ slot → ⊥ = λ e. other (a.tx ∙ (ap (λ k. suc (m.before + k)) e ∙ sym number)) in (
        o,
        record {
          open_step = a.open_step;
          place = a.place;
          running = a.running;
          there = get-slice_set_other m.table slot a.place (Some q) apart ∙ a.there;
          tx = a.tx;
          gathered = a.gathered;
          touched = a.touched;
          pledge = l.pledge ∙ a.pledge;
          due = redraft_due o other a.running.draft.touched t o.phase a.due;
        },
      )

  redraft_place : (t : ℕ) (w : Place) → slice_get places t ≡ Some w → IsPlace n d t w
  redraft_place t w at =
      let f = like t w at in
      let p = f.0 in
      let l = f.2 in
      let h = s.places t p f.1 in
      record {
        number = l.number ∙ h.number;
        entries = l.entries;
        handles = λ i member. h.handles i (subst (λ is. Contains is i) l.installed member);
        apart = own_stays p.site w.site l.installed h.apart;
        part = subst (IsPart n d t w) (sym l.part) (redraft_part t p w l p.part h.part);
      }

  redraft_slot : (k : ℕ) (o : Option Running) → (k ≡ slot → ⊥) → RunsAt c m.before k o → RunsAt d m.before k o
  redraft_slot k None ne h = h
  redraft_slot k (Some w) ne h = record {
    active = h.active;
    handle = h.handle;
    rising = h.rising;
    used = h.used;
    changes = λ t. other_changes (suc (m.before + k)) t (slot_other k ne) ∙ h.changes t;
    reads = λ t. other_reads (suc (m.before + k)) t (kept_in (at_site t w.draft.touched)) (slot_other k ne) (h.reads t);
  }

  redraft_phase : (o : Open) → (o.tx ≡ tx → ⊥) → (phase : Phase) → IsPhase m c o phase → IsPhase n d o phase
  redraft_phase o other Committed h = h
  redraft_phase o other Refused h = h
  redraft_phase o other (Gathering edges) h = (
    h.0,
    record {
      place = h.1.place;
      window = h.1.window;
      fit = h.1.fit;
      forward = h.1.forward;
      here = h.1.here;
      once = h.1.once;
      own = λ arc member. (other_edges o.tx arc other).0 (h.1.own arc member);
      lead = λ arc is gathered. h.1.lead arc ((other_edges o.tx arc other).1 is) gathered;
    },
  )

  redraft_step : (o : Option Open) → m.step ≡ o → IsStep m c o → IsStep n d o
  redraft_step None e h = h
  redraft_step (Some o) e h = (h.0, h.1, redraft_phase o (step_other o e) o.phase h.2)

  module _ (reached : IsReached (redrafted c entries changes)) (items : map (λ (p : Place). p.site.items) places ≡ map
      (λ (p : Place). p.site.items) m.places)
      (own : IsRunning (redrafted c entries changes) m.before slot q) where
    redraft_running : (k : ℕ) (o : Option Running) → slice_get (slice_set m.table slot (Some q)) k ≡ Some o
        → RunsAt d m.before k o
    redraft_running k o at = elim (cases_eq k slot) [
      | inl is ↦
          let here : slice_get (slice_set m.table slot (Some q)) slot ≡ Some (Some q) =
          get-slice_set_same m.table slot (Some q) (slice_get_within m.table slot (Some r) there) in
          let same : Some q ≡ o =
          same_Some (Some q) o (sym here ∙ (ap (slice_get (slice_set m.table slot (Some q))) (sym is) ∙ at)) in
          subst (λ w. RunsAt d m.before k w) same (subst (λ j. IsRunning d m.before j q) (sym is) own)
      | inr ne ↦ redraft_slot k o ne (s.running k o (sym (get-slice_set_other m.table slot k (Some q) ne) ∙ at))
    ]

    pub redraft_stands : StandsFor (redraft_parts m places slot q) (redrafted c entries changes)
    redraft_stands =
        let begun = s.begun in
        let window = s.window in
        let within = slice_get_within m.table slot (Some r) there in
        record {
          reached = reached;
          sites = s.sites;
          items = s.items ∙ sym items;
          certifier = s.certifier;
          before = s.before;
          begun = s.begun;
          window = s.window ∙ ap (λ k. m.before + k) (sym (length-set m.table slot (Some q)));
          unborn = λ i t lt. other_changes i t (λ e. absurd (omega (arith, e, number, within, lt, window)))
              ∙ s.unborn i t lt;
          running = redraft_running;
          places = redraft_place;
          step = redraft_step m.step refl s.step;
        }
