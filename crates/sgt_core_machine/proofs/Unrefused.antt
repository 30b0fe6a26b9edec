-- What the core asks of its sites and of its certifier they don't refuse, but for want of memory.
use Rattle.std.proofs.Common.{◌≡◌, ◌<◌, ◌+◌, ◌^◌, ◌++◌, ℕ, suc, List, length, take, refl, sym, ◌∙◌, arith, Contains, Option, Some, None, subst, ap, ap₂}
use Rattle.std.specs.Prelude.{slice_get, Result, Ok, Err, IfErr, All, option_and_then}
use Rattle.std.proofs.lemmas.List.Elements.{Contains-append_left}
use Rattle.std.proofs.lemmas.Option.{same_Some, slice_get_within}
use Rattle.sgt_names.specs.Draft.{at_site, kept_in, writing_in, touched_at, look_of}
use Rattle.sgt_names.specs.Entry.{tx_of, IsEnd, Reads}
use Rattle.sgt_names.specs.Name.{Name}
use Rattle.sgt_names.specs.declared.draft.Seen.{Seen}
use Rattle.sgt_names.specs.declared.draft.Touch.{Touch}
use Rattle.sgt_names.specs.declared.entry.Change.{Change}
use Rattle.sgt_names.specs.declared.entry.Entry.{Entry}
use Rattle.sgt_names.specs.declared.entry.Entry.TheVariants as entry
use Rattle.sgt_names.proofs.Lists.{Any_at}
use Rattle.sgt_names.proofs.Places.{Contains-from_at, All-from_at}
use Rattle.sgt_arena.specs.declared.handle.Handle.{Handle}
use Rattle.sgt_site.specs.State.{SiteState, Pledge, HasEnded, KeepsReads, LogsRead, IsPledged, version_at}
use Rattle.sgt_site.specs.Refused.{IsHere, MayRead, MayPledge, RefusesPledge}
use Rattle.sgt_site.specs.declared.fault.SiteFault.{SiteFault}
use Rattle.sgt_site.specs.declared.fault.SiteFault.TheVariants as site_fault
use Rattle.sgt_edges.specs.declared.edge.Edge.{Edge}
use Rattle.sgt_certifier.specs.Certifier.{State}
use Rattle.sgt_certifier.specs.History.{Request, begin, close, tx_under, IsActive, IsOlder, Fits, IsAllowed as IsServed}
use Rattle.sgt_certifier.specs.Kept.{IsTold, MayDecide}
use Rattle.sgt_certifier.specs.declared.call.CertifierFault.{CertifierFault}
use Rattle.sgt_certifier.specs.declared.call.CertifierFault.TheVariants as told
use Rattle.sgt_notation.specs.declared.event.Event.TheVariants.{Decide}
use Rattle.sgt_core_machine.specs.declared.machine.Place.{Place}
use Rattle.sgt_core_machine.specs.declared.machine.Part.{Part}
use Rattle.sgt_core_machine.specs.declared.machine.Part.TheVariants.{Idle, Due, Written}
use Rattle.sgt_core_machine.specs.declared.machine.Running.{Running}
use Rattle.sgt_core_machine.specs.declared.machine.Open.{Open}
use Rattle.sgt_core_model.specs.Core.{CoreState, items_at}
use Rattle.sgt_core_model.specs.Step.{StepIs, IsOwnOpen, IsOfSite, IsAllowed}
use Rattle.sgt_core_machine.specs.Machine.{Parts, IsRunning, IsPart, IsPlace, IsStep, StandsFor, IsOfClose}
use Rattle.sgt_core_machine.specs.private.Decided.{edges_in, MayRuleAt}
use Rattle.sgt_core_machine.specs.private.Withdrawing.{MayWithdrawAt}
use Rattle.sgt_core_model.proofs.Entries.{read_no_end}
use Rattle.sgt_core_machine.proofs.Finding.{to_place}
use Rattle.sgt_core_machine.proofs.Drafting.{kept_seen}
use Rattle.sgt_core_model.proofs.Kept.{IsKept}
use Rattle.sgt_core_model.proofs.Legal.{free_reads}
use Rattle.sgt_core_machine.proofs.Reading.{not_seen}
use Rattle.sgt_core_machine.proofs.Refusing.{site_count}
use Rattle.sgt_core_machine.proofs.Ruled.{undecided, gathered_in_step}
use Rattle.sgt_core_machine.proofs.Standing.{reached_kept, certifier_closed}

-- ---- what a refusal tells of the state

pub told_memory : (s : State) (request : Request) → IsServed s request → (f : CertifierFault) → IsTold s request f
    → f ≡ told.Memory
told_memory s request may told.Memory t = refl
told_memory s request may f t = absurd (may f t.0)

pub pledge_memory : {A : Type 0} (s : SiteState) (tx : ℕ) (touched : List Touch) (r : Result A SiteFault)
    → MayPledge s tx touched → IfErr r (RefusesPledge s tx touched)
    → IfErr r (λ f. f ≡ site_fault.Memory)
pledge_memory s tx touched (Ok a) may t = tt
pledge_memory s tx touched (Err site_fault.Memory) may t = refl
pledge_memory s tx touched (Err site_fault.UnknownItem) may t = absurd (t may.known)
pledge_memory s tx touched (Err site_fault.Ended) may t = absurd (may.active t.1)
pledge_memory s tx touched (Err site_fault.PledgeOpen) may t = absurd (t.1 may.free)
pledge_memory s tx touched (Err site_fault.DraftDiffers) may t = absurd (t.1 may.same)
pledge_memory s tx touched (Err _) may t = absurd t

-- ---- what stands at a site

-- who is active and not decided has no end in a log
no_end : (c : CoreState) (tx t : ℕ) → IsKept c → t < length c.items → Contains c.certifier.active tx
    → (c.certifier.step ≡ Some tx → ⊥) → HasEnded (c.entries t) tx → ⊥
no_end c tx t k lt active free ended =
    let a = Any_at (λ (e : Entry). (tx_of e ≡ tx) × IsEnd e) (c.entries t) ended in
    let member = Contains-append_left (c.entries t) (c.due t) a.1 (Contains-from_at (c.entries t) a.0 a.1 a.2) in
    read_no_end a.1 (free_reads (items_at c t) c.certifier (c.entries t ++ c.due t) tx (k.sound.legal.sites t lt).log
    k.sound.ruled (active, free) a.1 member a.3.0) a.3.1

pub idle_pledge : (m : Parts) (c : CoreState) (t : ℕ) (p : Place) (part : Part) → IsPart m c t p part → part ≡ Idle
    → p.site.pledge ≡ None
idle_pledge m c t p Idle h is = h.0
idle_pledge m c t p Due h is = absurd cc
idle_pledge m c t p Written h is = absurd cc

pub closed_pledge : (m : Parts) (c : CoreState) (t : ℕ) (p : Place) (part : Part) → m.step ≡ None
    → IsPart m c t p part → p.site.pledge ≡ None
closed_pledge m c t p Idle none h = h.0
closed_pledge m c t p Due none h = absurd (let e : Some h.0 ≡ None = sym h.1.open_step ∙ none in cc)
closed_pledge m c t p Written none h = h.pledge

-- a read of the item in the log
logged_read : (es : List Entry) (tx n : ℕ) (x : Name) (e : Entry) → slice_get es n ≡ Some e → tx_of e ≡ tx → Reads x e
    → (v : ℕ) × LogsRead es tx x v (version_at (take n es) x)
logged_read es tx n x (entry.Read i y v) at own is = (
  v,
  record {
    place = n;
    at = at ∙ ap Some (ap (λ j. entry.Read j y v) own ∙ ap (λ z. entry.Read tx z v) is);
    version = refl;
  },
)
logged_read es tx n x _ at own is = absurd is

own_open : (m : Parts) (c : CoreState) (tx : ℕ) (o : Option Open) → IsStep m c o → (p : Open) → o ≡ Some p → p.tx ≡ tx
    → IsOwnOpen c tx
own_open m c tx None h p e is = absurd cc
own_open m c tx (Some o) h p e is = subst (StepIs (λ t. t ≡ tx)) (sym h.1) (ap (λ (w : Open). w.tx) (same_Some o p e)
    ∙ is)

-- no site has the pledge of a transaction whose step isn't open
no_pledge : (m : Parts) (c : CoreState) → StandsFor m c → (tx : ℕ) → (IsOwnOpen c tx → ⊥)
    → (t : ℕ) (p : Place) (part : Part) → IsPart m c t p part → IsPledged p.site tx → ⊥
no_pledge m c s tx closed t p Idle h q =
    let e : ◌≡◌ {A = Option Pledge} (Some (record { tx = tx; part = q.0 })) None = sym q.1 ∙ h.0 in absurd cc
no_pledge m c s tx closed t p Written h q =
    let e : ◌≡◌ {A = Option Pledge} (Some (record { tx = tx; part = q.0 })) None = sym q.1 ∙ h.pledge in absurd cc
no_pledge m c s tx closed t p Due h q =
    let same = same_Some _ _ (sym h.1.pledge ∙ q.1) in
    closed (own_open m c tx m.step s.step h.0 h.1.open_step (ap (λ (w : Pledge). w.tx) same))

-- ---- a pledge, and a read

module _ (m : Parts) (c : CoreState) (s : StandsFor m c) (tx slot : ℕ) (number : tx ≡ suc (m.before + slot)) (t : ℕ)
    (p : Place) (r : Running)
    (here : slice_get m.places t ≡ Some p) (runs : slice_get m.table slot ≡ Some (Some r)) where
  abbrev k : IsKept c
  k = reached_kept c s.reached

  abbrev place : IsPlace m c t p
  place = s.places t p here

  abbrev running : IsRunning c m.before slot r
  running = s.running slot (Some r) runs

  abbrev ts : List Touch
  ts = r.draft.touched

  goes_on : (c.certifier.step ≡ Some tx → ⊥) → HasEnded p.site.entries tx → ⊥
  goes_on free ended =
      let count = site_count m c s in
      let inside = slice_get_within m.places t p here in
      no_end c tx t k (omega (arith, count, inside)) (subst (Contains c.certifier.active) (sym number) running.active)
      free
      (subst (λ (es : List Entry). HasEnded es tx) (sym place.entries) ended)

  reads : KeepsReads p.site.entries tx (kept_in (at_site t ts))
  reads = subst (λ j. KeepsReads p.site.entries j (kept_in (at_site t ts))) (sym number)
      (subst (λ (es : List Entry). KeepsReads es (suc (m.before + slot)) (kept_in (at_site t ts))) place.entries
      (running.reads t))

  changes : All (λ (d : Name × Change). IsHere p.site d.0) (writing_in (at_site t ts))
  changes = All-from_at (λ (d : Name × Change). IsHere p.site d.0) (writing_in (at_site t ts)) (λ n d at.
      let has = subst (λ (ds : List (Name × Change)). Contains ds d) (sym (running.changes t))
      (Contains-from_at (writing_in (at_site t ts)) n d at) in
      to_place m c t d.0 p s here (k.sound.legal.changes_known (suc (m.before + slot)) t d has))

  pub may_pledge : (c.certifier.step ≡ Some tx → ⊥) → p.site.pledge ≡ None → MayPledge p.site tx r.draft.touched
  may_pledge free none = record {
    known = subst (λ n. All (λ (d : Name × Change). IsHere p.site d.0) (writing_in (at_site n ts))) (sym place.number)
        changes;
    active = goes_on free;
    free = none;
    same = subst (λ n. KeepsReads p.site.entries tx (kept_in (at_site n ts))) (sym place.number) reads;
  }

  pub may_read : (IsOwnOpen c tx → ⊥) → (x : Name) → IsOfSite c t x
      → option_and_then look_of (touched_at ts (t, x)) ≡ None → MayRead p.site tx x
  may_read closed x known none = record {
    known = to_place m c t x p s here known;
    first = λ read.
        let a = Any_at (λ (e : Entry). (tx_of e ≡ tx) × Reads x e) p.site.entries read in
        let logged = logged_read p.site.entries tx a.0 x a.1 a.2 a.3.0 a.3.1 in
        let kept = (reads x logged.0 (version_at (take a.0 p.site.entries) x)).1 logged.1 in
        let e : ◌≡◌ {A = Option Seen} None (Some _) = sym (not_seen ts t x none)
        ∙ kept_seen ts t x logged.0 _ running.rising kept in
        absurd cc;
    active = goes_on (λ mine. closed (k.together tx mine));
    free = no_pledge m c s tx closed t p p.part place.part;
  }

-- ---- the certifier

is_active : (m : Parts) (c : CoreState) → StandsFor m c → (slot : ℕ) (r : Running)
    → slice_get m.table slot ≡ Some (Some r) → IsActive m.certifier r.handle
is_active m c s slot r runs =
    let running = s.running slot (Some r) runs in
    let same = s.certifier.same in
    let first : m.before ≡ m.certifier.before = sym s.before ∙ ap (λ (st : State). st.before) same in
    let number : suc (m.before + slot) ≡ tx_under m.certifier r.handle =
    ap₂ (λ (a b : ℕ). suc (a + b)) first (sym (ap (λ (h : Handle). h.index) running.handle)) in (
      ap (λ (h : Handle). h.generation) running.handle ∙ ap (λ (st : State). st.generation) same,
      subst (Contains m.certifier.active) number
          (subst (λ xs. Contains xs (suc (m.before + slot))) (ap (λ (st : State). st.active) same) running.active),
    )

no_step : (m : Parts) (c : CoreState) → StandsFor m c → c.certifier.step ≡ None → (t : ℕ) → m.certifier.step ≡ Some t
    → ⊥
no_step m c s none t is = let e : Some t ≡ None = sym is ∙ (sym (ap (λ (st : State). st.step) s.certifier.same)
    ∙ none) in absurd cc

pub may_begin : (m : Parts) (c : CoreState) → StandsFor m c → m.step ≡ None → length m.table < 4096
    → suc m.begun < 2 ^ 32 → IsServed m.certifier begin
may_begin m c s none room numbers told.WindowFull f =
    let same = s.certifier.same in
    let begun = ap (λ (st : State). st.begun) same in
    let before = ap (λ (st : State). st.before) same in
    let all = s.begun in
    let first = s.before in
    let window = s.window in
    omega (arith, f, begun, before, all, first, window, room)
may_begin m c s none room numbers (told.StepOpen t) f = no_step m c s (certifier_closed m c s none) t f
may_begin m c s none room numbers told.NumbersSpent f =
    let begun = ap (λ (st : State). st.begun) s.certifier.same in
    let all = s.begun in
    omega (arith, f, begun, all, numbers)
may_begin m c s none room numbers _ f = f

pub may_withdraw_at : (m : Parts) (c : CoreState) → StandsFor m c → m.step ≡ None → (slot : ℕ)
    → MayWithdrawAt m.certifier m.table slot
may_withdraw_at m c s none slot r runs told.Unknown f = f (is_active m c s slot r runs)
may_withdraw_at m c s none slot r runs (told.StepOpen t) f = no_step m c s (certifier_closed m c s none) t f
may_withdraw_at m c s none slot r runs _ f = f

module _ (m : Parts) (c : CoreState) (s : StandsFor m c) (tx slot : ℕ) (number : tx ≡ suc (m.before + slot))
    (allowed : IsAllowed c (Decide tx)) where
  abbrev edges : List Edge
  edges = edges_in m.step

  module _ (r : Running) (runs : slice_get m.table slot ≡ Some (Some r)) where
    fits : (e : Edge) → Contains edges e
        → Fits m.certifier r.handle e × (e.from ≡ r.handle → e.to.generation ≡ m.certifier.generation)
    fits e member =
        let g = gathered_in_step m c s tx slot number allowed m.step s.step in
        let running = s.running slot (Some r) runs in
        let first : m.before ≡ m.certifier.before = sym s.before ∙ ap (λ (st : State). st.before) s.certifier.same in
        let window = g.window in
        let index : g.place ≡ slot = omega (arith, number, window, first) in
        let same : record { index = g.place; generation = m.certifier.generation } ≡ r.handle
        = ap₂ (λ (a b : ℕ). record { index = a; generation = b }) index
        (sym (ap (λ (st : State). st.generation) s.certifier.same)) ∙ sym running.handle in (
          subst (λ (h : Handle). Fits m.certifier h e) same (g.fit e member),
          λ from. g.forward e member (from ∙ sym same),
        )

    may_rule : MayDecide m.certifier r.handle edges
    may_rule = record {
      active = is_active m c s slot r runs;
      fit = λ n e at. (fits e (Contains-from_at edges n e at)).0;
      idle = sym (ap (λ (st : State). st.step) s.certifier.same) ∙ undecided m c s tx slot number allowed;
      forward = λ any.
          let a = Any_at (λ (e : Edge). (e.from ≡ r.handle) × IsOlder m.certifier e.to) edges any in
          let here = (fits a.1 (Contains-from_at edges a.0 a.1 a.2)).1 a.3.0 in
          omega (arith, here, a.3.1);
    }

  pub may_rule_at : MayRuleAt m.certifier m.table slot (edges_in m.step)
  may_rule_at r runs = may_rule r runs
