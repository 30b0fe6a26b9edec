-- The open step: a transaction is gathered at one more site, or its step is closed as if it had never been opened.
use Rattle.std.proofs.Common.{◌≡◌, ◌<◌, ◌≤◌, ◌+◌, ℕ, suc, List, [], ◌∷◌, ◌++◌, length, map, refl, sym, ◌∙◌, arith, ◌⊎◌, inl, inr, Contains, Option, Some, None, subst, ap}
use Rattle.std.specs.Prelude.{slice_get, slice_set, true}
use Rattle.std.proofs.lemmas.Bool.{cases_eq}
use Rattle.std.proofs.lemmas.Option.{same_Some, slice_get_within}
use Rattle.sgt_names.specs.Draft.{at_site, Touches}
use Rattle.sgt_names.specs.declared.draft.Touch.{Touch}
use Rattle.sgt_names.specs.declared.entry.Entry.{Entry}
use Rattle.sgt_names.specs.Entry.{tx_of}
use Rattle.sgt_names.proofs.Lists.{within_at}
use Rattle.sgt_site.specs.State.{Pledge, SiteState, IsPledged}
use Rattle.sgt_edges.specs.declared.edge.Edge.{Edge}
use Rattle.sgt_certifier.specs.Certifier.{State}
use Rattle.sgt_certifier.proofs.Members.{cons_here}
use Rattle.sgt_notation.specs.declared.event.Event.{Event}
use Rattle.sgt_notation.specs.declared.event.Event.TheVariants.{Gather}
use Rattle.sgt_core_model.specs.declared.reply.Reply.{Reply}
use Rattle.sgt_core_model.specs.declared.reply.Reply.TheVariants.{Gathered, Fault}
use Rattle.sgt_core_model.specs.declared.reply.CoreFault.TheVariants as fault
use Rattle.sgt_core_machine.specs.declared.machine.Place.{Place}
use Rattle.sgt_core_machine.specs.declared.machine.Part.{Part}
use Rattle.sgt_core_machine.specs.declared.machine.Part.TheVariants.{Idle, Due, Written}
use Rattle.sgt_core_machine.specs.declared.machine.Running.{Running}
use Rattle.sgt_core_machine.specs.declared.machine.Open.{Open}
use Rattle.sgt_core_machine.specs.declared.machine.Phase.{Phase}
use Rattle.sgt_core_machine.specs.declared.machine.Phase.TheVariants.{Gathering, Committed, Refused}
use Rattle.sgt_core_model.specs.Core.{CoreState, OpenStep}
use Rattle.sgt_core_model.specs.Step.{StepIs, IsOtherOpen, gathered_in, IsAllowed, MayStep}
use Rattle.sgt_core_machine.specs.Machine.{Parts, Carries, IsRunning, RunsAt, IsDueBy, IsDueAt, IsPart, IsPlace, AreGathered, IsStep, StandsFor, IsSlotOf}
use Rattle.sgt_core_machine.specs.Gathered.{phase_with, step_with, IsReleased, AreReleased, GathersAt}
use Rattle.sgt_core_model.proofs.Kept.{IsKept}
use Rattle.sgt_core_model.proofs.Runs.{gather_idle}
use Rattle.sgt_core_machine.proofs.Standing.{reached_more, reached_kept}
use Rattle.sgt_core_machine.proofs.Leading.{gathered_more, none_gathered}
use Rattle.sgt_core_machine.proofs.OwnHandles.{own_stays, not_yet}
use Rattle.sgt_names.proofs.Elements.{get-slice_set_same, get-slice_set_other, contains-cases, contains-later, contains-none}

-- what is left of a site, whether or not the pledge stood
pub record IsLeft (tx : ℕ) (old new : Place) : Type 0 where
  pub site : new.site ≡ record old.site { pledge = new.site.pledge }
  pub pledge : (new.site.pledge ≡ None) ⊎ ((new.site.pledge ≡ old.site.pledge) × (IsPledged old.site tx → ⊥))
  pub part : new.part ≡ Idle

pledged_cases : (tx : ℕ) (o : Option Pledge) → ((part : List Touch) × (o ≡ Some (record { tx = tx; part = part })))
    ⊎ (((part : List Touch) × (o ≡ Some (record { tx = tx; part = part }))) → ⊥)
pledged_cases tx None = inr (λ h. let e : ◌≡◌ {A = Option Pledge} None (Some (record { tx = tx; part = h.0 })) =
    h.1 in cc)
pledged_cases tx (Some p) = elim (cases_eq p.tx tx) [
  | inl own ↦ inl (p.part, ap (λ i. Some (record { tx = i; part = p.part })) own)
  | inr other ↦ inr (λ h. other (ap (λ (q : Pledge). q.tx) (same_Some p (record { tx = tx; part = h.0 }) h.1)))
]

pub left_of : (tx : ℕ) (old new : Place) → IsReleased tx old new → IsLeft tx old new
left_of tx old new r = elim (pledged_cases tx old.site.pledge) [
  | inl own ↦
      let is = r.pledged own in
      let none : new.site.pledge ≡ None = ap (λ (p : Place). p.site.pledge) is in
      record {
        site = ap (λ (p : Place). p.site) is ∙ ap (λ (g : Option Pledge). record old.site { pledge = g }) (sym none);
        pledge = inl none;
        part = ap (λ (p : Place). p.part) is;
      }
  | inr other ↦
      let is = r.other other in
      let same : new.site.pledge ≡ old.site.pledge = ap (λ (p : Place). p.site.pledge) is in
      record {
        site = ap (λ (p : Place). p.site) is ∙ ap (λ (g : Option Pledge). record old.site { pledge = g }) (sym same);
        pledge = inr (same, other);
        part = ap (λ (p : Place). p.part) is;
      }
]

-- nothing is due while no step is decided
pub nothing_due : (c : CoreState) → IsKept c → c.certifier.step ≡ None → (t : ℕ) → c.due t ≡ []
nothing_due c k undecided t = empty (c.due t) (λ e m. let o : Some (tx_of e) ≡ None = sym (k.sound.ordered.due t e m)
    ∙ undecided in absurd cc)
  where
    empty : (es : List Entry) → ((e : Entry) → Contains es e → ⊥) → es ≡ []
    empty [] g = refl
    empty (e ∷ es) g = absurd (g e (cons_here e es))

-- who is active stays so with another step
running_stays : (c : CoreState) (step : Option OpenStep) (before k : ℕ) (o : Option Running) → RunsAt c before k o
    → RunsAt (record c { step = step }) before k o
running_stays c step before k None h = h
running_stays c step before k (Some r) h = record {
  active = h.active;
  handle = h.handle;
  rising = h.rising;
  used =
      h.used;
  changes = h.changes;
  reads = h.reads;
}

-- the open step is the transaction's, where it isn't another's
pub step_own : (m : Parts) (c : CoreState) (tx : ℕ) → (IsOtherOpen c tx → ⊥) → (o : Option Open) → IsStep m c o
    → (p : Open) → o ≡ Some p → p.tx ≡ tx
step_own m c tx out None h p e = absurd cc
step_own m c tx out (Some o) h p e =
    let same : o ≡ p = same_Some o p e in
    let own : o.tx ≡ tx = elim (cases_eq o.tx tx) [
      | inl is ↦ is
      | inr other ↦ absurd (out (subst (StepIs (λ i. i ≡ tx → ⊥)) (sym h.1) other))
    ] in
    ap (λ (w : Open). w.tx) (sym same) ∙ own

-- the same place of the table has the same draft
pub same_draft : (table : List (Option Running)) (slot : ℕ) (r q : Running) (t : ℕ)
    → slice_get table slot ≡ Some (Some r) → slice_get table slot ≡ Some (Some q)
    → Touches r.draft.touched t → Touches q.draft.touched t
same_draft table slot r q t first second any =
    subst (λ (w : Running). Touches w.draft.touched t)
    (same_Some r q (same_Some (Some r) (Some q) (sym first ∙ second))) any

-- ---- the step is closed

module _ (m : Parts) (c : CoreState) (s : StandsFor m c) (tx : ℕ) (no_other : IsOtherOpen c tx
    → ⊥) (undecided : c.certifier.step ≡ None)
    (places : List Place) (h : AreReleased tx m.places places) (kept : State) (same_state : kept ≡ m.certifier) where
  abbrev closed_parts : Parts
  closed_parts = record m { places = places; certifier = kept; step = None }

  abbrev closed_state : CoreState
  closed_state = record c { step = None }

  no_pledge : (t : ℕ) (p q : Place) → IsLeft tx p q → (part : Part) → IsPart m c t p part → q.site.pledge ≡ None
  no_pledge t p q r part is = elim r.pledge [
    | inl none ↦ none
    | inr kept ↦ by_part part is kept.0 kept.1
  ]
    where
      by_part : (part : Part) → IsPart m c t p part → q.site.pledge ≡ p.site.pledge → (IsPledged p.site tx → ⊥)
          → q.site.pledge ≡ None
      by_part Idle is same out = same ∙ is.0
      by_part Written is same out = same ∙ is.pledge
      by_part Due is same out =
          let own = step_own m c tx no_other m.step s.step is.0 is.1.open_step in
          absurd (out (
            at_site t is.1.running.draft.touched,
            is.1.pledge
                ∙ ap (λ i. Some (record { tx = i; part = at_site t is.1.running.draft.touched })) own,
          ))

  released_place : (t : ℕ) (q : Place) → slice_get places t ≡ Some q → IsPlace closed_parts closed_state t q
  released_place t q at =
      let lt = slice_get_within places t q at in
      let long = h.long in
      let found = within_at m.places t (omega (arith, lt, long)) in
      let p = found.0 in
      let r = left_of tx p q (h.each t p q found.1 at) in
      let old = s.places t p found.1 in
      record {
        number = ap (λ (st : SiteState). st.number) r.site ∙ old.number;
        entries = old.entries ∙ sym (ap (λ (st : SiteState). st.entries) r.site);
        handles =
            λ i member. old.handles i (subst (λ is. Contains is i) (ap (λ (st : SiteState). st.installed) r.site)
            member);
        apart = own_stays p.site q.site (ap (λ (st : SiteState). st.installed) r.site) old.apart;
        part = subst (IsPart closed_parts closed_state t q) (sym r.part) (
          no_pledge t p q r p.part old.part,
          nothing_due c (reached_kept c s.reached) undecided t,
          λ g. contains-none t g,
        );
      }

  same_items : map (λ (p : Place). p.site.items) places ≡ map (λ (p : Place). p.site.items) m.places
  same_items =
      each_item places m.places h.long
      (λ t p q at_p at_q. ap (λ (st : SiteState). st.items) (left_of tx p q (h.each t p q at_p at_q)).site)
    where
      each_item : (ps qs : List Place) → length ps ≡ length qs
          → ((t : ℕ) (p q : Place) → slice_get qs t ≡ Some p → slice_get ps t ≡ Some q → q.site.items ≡ p.site.items)
          → map (λ (p : Place). p.site.items) ps ≡ map (λ (p : Place). p.site.items) qs
      each_item [] [] long e = refl
      each_item (q ∷ ps) [] long e = absurd (omega (arith, long))
      each_item [] (p ∷ qs) long e = absurd (omega (arith, long))
      each_item (q ∷ ps) (p ∷ qs) long e =
          ap (λ i. i ∷ map (λ (w : Place). w.site.items) ps) (e 0 p q refl refl)
          ∙ ap (λ is. p.site.items ∷ is) (each_item ps qs (omega (arith, long)) (λ t. e (suc t)))

  pub released_goes : (event : Event) (reply : Reply) → reply ≡ Fault fault.Memory
      → MayStep c event (Fault fault.Memory) (record c { step = None })
      → (e : CoreState) × MayStep c event reply e
      × StandsFor (record m { places = places; certifier = kept; step = None }) e
  released_goes event reply is may = (
    closed_state,
    subst (λ q. MayStep c event q closed_state) (sym is) may,
    record {
      reached = reached_more c event (Fault fault.Memory) closed_state s.reached may;
      sites = s.sites;
      items = s.items ∙ sym same_items;
      certifier = subst (λ (st : State). Carries st c.certifier) (sym same_state) s.certifier;
      before = s.before;
      begun = s.begun;
      window = s.window;
      unborn = s.unborn;
      running = λ k o at. running_stays c None m.before k o (s.running k o at);
      places = released_place;
      step = (refl, undecided);
    },
  )

pub gives_up : (m : Parts) (c : CoreState) → StandsFor m c → (tx : ℕ) → (IsOtherOpen c tx → ⊥)
    → c.certifier.step ≡ None → (mid new : Parts)
    → mid ≡ record m { step = mid.step; certifier = mid.certifier } → mid.certifier ≡ m.certifier
    → AreReleased tx mid.places new.places
    → new ≡ record mid { places = new.places; step = None } → (event : Event) (reply : Reply)
    → reply ≡ Fault fault.Memory
    → MayStep c event (Fault fault.Memory) (record c { step = None }) → (e : CoreState) × MayStep c event reply e
    × StandsFor new e
gives_up m c s tx no_other undecided mid new same state h is event reply e may =
    let from_old = subst (λ (ps : List Place). AreReleased tx ps new.places) (ap (λ (w : Parts). w.places) same) h in
    let goes = released_goes m c s tx no_other undecided new.places from_old mid.certifier state event reply e may in
    let all : new ≡ record m { places = new.places; certifier = mid.certifier; step = None } = is
    ∙ ap (λ (w : Parts). record w { places = new.places; step = None }) same in
    (goes.0, goes.1, subst (λ w. StandsFor w goes.0) (sym all) goes.2)

-- nothing but the step was changed before
pub only_step : (m mid : Parts) → mid ≡ record m { step = mid.step }
    → (mid ≡ record m { step = mid.step; certifier = mid.certifier }) × (mid.certifier ≡ m.certifier)
only_step m mid is =
    let same : mid.certifier ≡ m.certifier = ap (λ (w : Parts). w.certifier) is in
    (is ∙ ap (λ k. record m { step = mid.step; certifier = k }) (sym same), same)

-- ---- one more site is gathered

-- the step with further edges, and what it has gathered
record IsGrown (m : Parts) (d : CoreState) (tx : ℕ) (step : Option Open) : Type 0 where
  pub open_step : Open
  pub is : step ≡ Some open_step
  pub own : open_step.tx ≡ tx
  pub edges : List Edge
  pub phase : open_step.phase ≡ Gathering edges
  pub gathered : AreGathered m.certifier d tx edges

module _ (m : Parts) (c : CoreState) (s : StandsFor m c) (tx slot : ℕ) (number : tx ≡ suc (m.before + slot))
    (no_other : IsOtherOpen c tx → ⊥) (t : ℕ)
    (new : Parts) (g : GathersAt m new tx slot t) (allowed : IsAllowed c (Gather tx t))
    (touched : Touches g.pledge.running.draft.touched t) where
  abbrev k : IsKept c
  k = reached_kept c s.reached

  undecided : c.certifier.step ≡ None
  undecided = gather_idle c tx t k allowed

  abbrev p : Place
  p = g.pledge.place

  abbrev r : Running
  r = g.pledge.running

  abbrev d : CoreState
  d = record c { step = Some (record { tx = tx; gathered = t ∷ gathered_in c.step }) }

  abbrev n : Parts
  n = record m { places = new.places; step = step_with m.step tx g.edges }

  own : IsRunning c m.before slot r
  own = s.running slot (Some r) g.pledge.runs

  at_t : IsPlace m c t p
  at_t = s.places t p g.pledge.there

  -- the edges were given at this place, of this transaction
  same_place : g.given.place ≡ p
  same_place = same_Some g.given.place p (sym g.given.there ∙ g.pledge.there)

  same_running : g.given.running ≡ r
  same_running =
      same_Some g.given.running r (same_Some (Some g.given.running) (Some r) (sym g.given.runs ∙ g.pledge.runs))

  grows : (edges : List Edge) → AreGathered m.certifier c tx edges → AreGathered m.certifier d tx (edges ++ g.edges)
  grows edges h = gathered_more m c k s.certifier s.before undecided tx slot number r own t p at_t
      (subst (λ (q : Place). Rattle.sgt_site.specs.State.IsSite q.site) same_place g.given.legal) g.pledge.may g.edges
      (subst (λ (q : Place). Rattle.std.specs.Prelude.All
      (Rattle.sgt_edges.specs.Edges.IsGiven q.site r.draft.touched r.handle) g.edges) same_place
      (subst (λ (w : Running). Rattle.std.specs.Prelude.All
      (Rattle.sgt_edges.specs.Edges.IsGiven g.given.place.site w.draft.touched w.handle) g.edges) same_running
      g.given.given))
      (subst (λ (q : Place). Rattle.sgt_edges.specs.Edges.StandsForAll q.site r.draft.touched r.handle g.edges)
      same_place
      (subst (λ (w : Running). Rattle.sgt_edges.specs.Edges.StandsForAll g.given.place.site w.draft.touched w.handle
      g.edges) same_running g.given.stand))
      (g.given.once (subst (λ (q : Place). Rattle.sgt_edges.specs.Edges.HaveOwnHandles q.site)
      (sym same_place) at_t.apart))
      (not_yet c tx t allowed no_other) edges h

  grown : (o : Option Open) → IsStep m c o → ((q : Open) → o ≡ Some q → q.tx ≡ tx)
      → IsGrown m d tx (step_with o tx g.edges)
  grown None h own_step = record {
    open_step = record { tx = tx; phase = Gathering g.edges };
    is = refl;
    own = refl;
    edges = g.edges;
    phase = refl;
    gathered = grows [] (none_gathered m.certifier c tx slot
        (number ∙ ap (λ b. suc (b + slot)) (sym s.before
        ∙ ap (λ (st : Rattle.sgt_certifier.specs.Certifier.State). st.before) s.certifier.same))
        (ap gathered_in h.0));
  }
  grown (Some o) h own_step = by_phase o.phase refl h.2
    where
      by_phase : (phase : Phase) → o.phase ≡ phase → Rattle.sgt_core_machine.specs.Machine.IsPhase m c o phase
          → IsGrown m d tx (step_with (Some o) tx g.edges)
      by_phase (Gathering edges) e is = record {
        open_step = record { tx = o.tx; phase = phase_with o.phase g.edges };
        is = refl;
        own = own_step o refl;
        edges = edges ++ g.edges;
        phase = ap (λ w. phase_with w g.edges) e;
        gathered = grows edges (subst (λ i. AreGathered m.certifier c i edges) (own_step o refl) is.1);
      }
      by_phase Committed e is = absurd (let f : Some o.tx ≡ None = sym is.0 ∙ undecided in cc)
      by_phase Refused e is = absurd (let f : Some o.tx ≡ None = sym is.0 ∙ undecided in cc)

  all : IsGrown m d tx (step_with m.step tx g.edges)
  all = grown m.step s.step (λ q e. step_own m c tx no_other m.step s.step q e)

  due_none : (u : ℕ) → c.due u ≡ []
  due_none u = nothing_due c k undecided u

  other_part : (u : ℕ) (q : Place) → (t ≡ u → ⊥) → (part : Part) → IsPart m c u q part → IsPart n d u q part
  other_part u q ne Idle h = (
    h.0,
    h.1,
    λ member. elim (contains-cases t (gathered_in c.step) u member) [
      | inl is ↦ ne is
      | inr later ↦ h.2 later
    ],
  )
  other_part u q ne Written h = absurd (let f : Some (suc (m.before + h.place)) ≡ None = sym h.decided ∙ undecided in
      cc)
  other_part u q ne Due h =
      let a = h.1 in
      let same = step_own m c tx no_other m.step s.step h.0 a.open_step in
      let o = all.open_step in (
        o,
        record {
          open_step = all.is;
          place = a.place;
          running = a.running;
          there = a.there;
          tx = all.own ∙ (sym same ∙ a.tx);
          gathered = contains-later t (gathered_in c.step) u a.gathered;
          touched = a.touched;
          pledge = a.pledge ∙ ap (λ i. Some (record { tx = i; part = at_site u a.running.draft.touched })) (same
              ∙ sym all.own);
          due = subst (λ w. IsDueBy n d o.tx a.running.draft.touched w u) (sym all.phase) (due_none u);
        },
      )

  abbrev pledged : Place
  pledged =
      record {
        site =
            record p.site { pledge = Some (record { tx = tx; part = at_site p.site.number r.draft.touched }) };
        part = Due;
      }

  here_place : IsPlace n d t pledged
  here_place =
      let o = all.open_step in
      record {
        number = at_t.number;
        entries = at_t.entries;
        handles = at_t.handles;
        apart = at_t.apart;
        part = (
          o,
          record {
            open_step = all.is;
            place = slot;
            running = r;
            there = g.pledge.runs;
            tx = all.own ∙ number;
            gathered = cons_here t (gathered_in c.step);
            touched = touched;
            pledge = ap (λ i. Some (record { tx = tx; part = at_site i r.draft.touched })) at_t.number
                ∙ ap (λ i. Some (record { tx = i; part = at_site t r.draft.touched })) (sym all.own);
            due = subst (λ w. IsDueBy n d o.tx r.draft.touched w t) (sym all.phase) (due_none t);
          },
        );
      }

  new_place : (u : ℕ) (q : Place) → slice_get new.places u ≡ Some q → IsPlace n d u q
  new_place u q at = elim (cases_eq u t) [
    | inl is ↦
        let here : slice_get (slice_set m.places t pledged) t ≡ Some pledged =
        get-slice_set_same m.places t pledged (slice_get_within m.places t p g.pledge.there) in
        let same : pledged ≡ q =
        same_Some pledged q (sym here
        ∙ (ap (λ ps. slice_get ps t) (sym g.pledge.is) ∙ (ap (slice_get new.places) (sym is) ∙ at))) in
        subst (λ w. IsPlace n d u w) same (subst (λ v. IsPlace n d v pledged) (sym is) here_place)
    | inr ne ↦
        let there : slice_get m.places u ≡ Some q = sym (get-slice_set_other m.places t u pledged ne)
        ∙ (ap (λ ps. slice_get ps u) (sym g.pledge.is) ∙ at) in
        let h = s.places u q there in
        record {
          number = h.number;
          entries = h.entries;
          handles = h.handles;
          apart = h.apart;
          part =
              other_part u q (λ e. ne (sym e)) q.part h.part;
        }
  ]

  same_list : map (λ (w : Place). w.site.items) new.places ≡ map (λ (w : Place). w.site.items) m.places
  same_list = ap (map (λ (w : Place). w.site.items)) g.pledge.is ∙ set_map m.places t pledged p g.pledge.there refl
    where
      set_map : (ps : List Place) (j : ℕ) (q w : Place) → slice_get ps j ≡ Some w → q.site.items ≡ w.site.items
          → map (λ (v : Place). v.site.items) (slice_set ps j q) ≡ map (λ (v : Place). v.site.items) ps
      set_map [] j q w at is = absurd cc
      set_map (v ∷ ps) Rattle.std.proofs.Common.zero q w at is =
          ap (λ i. i ∷ map (λ (v : Place). v.site.items) ps) (is
          ∙ ap (λ (v : Place). v.site.items) (sym (same_Some v w at)))
      set_map (v ∷ ps) (suc j) q w at is = ap (λ is. v.site.items ∷ is) (set_map ps j q w at is)

  pub gather_goes : (reply : Reply) → reply ≡ Gathered → (e : CoreState) × MayStep c (Gather tx t) reply e
      × StandsFor new e
  gather_goes reply is =
      let may : MayStep c (Gather tx t) Gathered d = (allowed, refl) in
      let stands : StandsFor n d = record {
        reached = reached_more c (Gather tx t) Gathered d s.reached may;
        sites = s.sites;
        items = s.items ∙ sym same_list;
        certifier = s.certifier;
        before = s.before;
        begun = s.begun;
        window = s.window;
        unborn = s.unborn;
        running = λ j o at. running_stays c d.step m.before j o (s.running j o at);
        places = new_place;
        step = subst (IsStep n d) (sym all.is) (
          t ∷ gathered_in c.step,
          ap (λ i. Some (record { tx = i; gathered = t ∷ gathered_in c.step })) (sym all.own),
          subst (Rattle.sgt_core_machine.specs.Machine.IsPhase n d all.open_step) (sym all.phase) (
            undecided,
            subst (λ i. AreGathered m.certifier d i all.edges) (sym all.own) all.gathered,
          ),
        );
      } in
      (d, subst (λ q. MayStep c (Gather tx t) q d) (sym is) may, subst (λ w. StandsFor w d) (sym g.is) stands)
