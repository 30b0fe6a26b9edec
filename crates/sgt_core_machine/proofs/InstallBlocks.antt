-- A block of the open step is written at its site: what the machine stands for then, whether or not the step ends
-- with it.
use Rattle.std.proofs.Common.{◌≡◌, ◌<◌, ◌+◌, ℕ, suc, zero, true, false, List, [], ◌∷◌, ◌++◌, length, map, refl, sym, ◌∙◌, arith, inl, inr, Contains, Option, Some, None, subst, ap}
use Rattle.std.specs.Prelude.{slice_get, slice_set, ◌==◌}
use Rattle.std.proofs.lemmas.Bool.{cases_Bool, cases_eq}
use Rattle.std.proofs.lemmas.List.{append-nil, length-map}
use Rattle.std.proofs.lemmas.List.Elements.{Contains-append_cases, Contains-append_right}
use Rattle.std.proofs.lemmas.Option.{same_Some, slice_get_within}
use Rattle.sgt_names.specs.Name.{Name}
use Rattle.sgt_names.specs.Draft.{at_site, writing_in, kept_in, Touches}
use Rattle.sgt_names.specs.declared.draft.Touch.{Touch}
use Rattle.sgt_names.specs.declared.entry.Change.{Change}
use Rattle.sgt_names.specs.declared.entry.Entry.{Entry}
use Rattle.sgt_names.specs.declared.entry.Entry.TheVariants as entry
use Rattle.sgt_names.proofs.Lists.{option_cases}
use Rattle.sgt_names.proofs.Places.{Contains-from_at}
use Rattle.sgt_arena.specs.declared.handle.Handle.{Handle}
use Rattle.sgt_site.specs.State.{KeepsReads}
use Rattle.sgt_site.specs.declared.cell.Install.{Install}
use Rattle.sgt_site.proofs.Appends.{LogsRead-append, LogsRead-cases}
use Rattle.sgt_certifier.specs.Certifier.{State, serial, with_install}
use Rattle.sgt_certifier.specs.Certifier.{Install as Noted}
use Rattle.sgt_certifier.specs.History.{IsNoted}
use Rattle.sgt_certifier.specs.Kept.{changed_at as changed_names}
use Rattle.sgt_core_machine.specs.declared.machine.Place.{Place}
use Rattle.sgt_core_machine.specs.declared.machine.Part.{Part}
use Rattle.sgt_core_machine.specs.declared.machine.Part.TheVariants.{Idle, Due, Written}
use Rattle.sgt_core_machine.specs.declared.machine.Running.{Running}
use Rattle.sgt_core_machine.specs.declared.machine.Open.{Open}
use Rattle.sgt_core_machine.specs.declared.machine.Phase.{Phase}
use Rattle.sgt_core_machine.specs.declared.machine.Phase.TheVariants as phase
use Rattle.sgt_step.specs.declared.one_site.Ending.{Ending}
use Rattle.sgt_step.specs.declared.one_site.Ending.TheVariants.{Committed, Refused, Withdrawn}
use Rattle.sgt_core_model.specs.Core.{CoreState, as_changes, with_entries, only_at, changed_at, is_committed, noted}
use Rattle.sgt_core_machine.specs.Machine.{Parts, Carries, IsRunning, RunsAt, IsHandleOf, AwaitsInstall, IsDueBy, IsDueAt, IsPart, IsPlace, IsPhase, IsStep, StandsFor, IsReached}
use Rattle.sgt_core_machine.specs.private.Installing.{verdict_in, IsNotedBy, Writes}
use Rattle.sgt_step.specs.OneSite.{block_of, installed_by, ended_by}
use Rattle.sgt_core_model.proofs.Kept.{IsKept, IsRead}
use Rattle.sgt_core_model.proofs.Entries.{as_wants}
use Rattle.sgt_core_model.proofs.Faults.{is_in-Decides}
use Rattle.sgt_core_model.proofs.LegalSteps.{only_here, only_there, cleared_here, cleared_there}
use Rattle.sgt_core_machine.proofs.OwnHandles.{own_by}
use Rattle.sgt_core_machine.proofs.Standing.{reached_kept}
use Rattle.sgt_core_machine.proofs.Noting.{install_noted}
use Rattle.sgt_core_model.proofs.Committing.{no_block}
use Rattle.sgt_names.proofs.Elements.{get-slice_set_same, get-slice_set_other, contains-cases, contains-none}

-- ---- the verdict

-- the step is decided so
pub record IsVerdict (c : CoreState) (verdict : Ending) (tx : ℕ) : Type 0 where
  pub decided : c.certifier.step ≡ Some tx
  pub committed : verdict ≡ Committed → Contains c.certifier.order tx
  pub refused : verdict ≡ Refused → Contains c.certifier.order tx → ⊥
  pub ruled : verdict ≡ Withdrawn → ⊥

pub committed-apart : Committed ≡ Refused → ⊥
committed-apart e = cc

pub verdict_phase : (m : Parts) (c : CoreState) (o : Open) (verdict : Ending) (x : Phase)
    → verdict_in x ≡ Some verdict → IsPhase m c o x → IsVerdict c verdict o.tx
verdict_phase m c o verdict (phase.Gathering edges) e h = absurd cc
verdict_phase m c o verdict phase.Committed e h =
    let is = same_Some Committed verdict e in
    record {
      decided = h.0;
      committed = λ v. h.1;
      refused = λ v. absurd (committed-apart (is ∙ v));
      ruled = λ v. (let f : Committed ≡ Withdrawn = is ∙ v in cc);
    }
verdict_phase m c o verdict phase.Refused e h =
    let is = same_Some Refused verdict e in
    record {
      decided = h.0;
      committed = λ v. absurd (committed-apart (sym (is ∙ v)));
      refused = λ v. h.1;
      ruled = λ v. (let f : Refused ≡ Withdrawn = is ∙ v in cc);
    }

-- the block that is due by a decision
due_phase : (m : Parts) (c : CoreState) (tx : ℕ) (touched : List Touch) (s : ℕ) (verdict : Ending) (x : Phase)
    → verdict_in x ≡ Some verdict
    → IsDueBy m c tx touched x s → c.due s ≡ block_of verdict tx (c.changes tx s)
due_phase m c tx touched s verdict (phase.Gathering edges) e h = absurd cc
due_phase m c tx touched s verdict phase.Committed e h = h.0
    ∙ ap (λ v. block_of v tx (c.changes tx s)) (same_Some Committed verdict e)
due_phase m c tx touched s verdict phase.Refused e h = h
    ∙ ap (λ v. block_of v tx (c.changes tx s)) (same_Some Refused verdict e)

-- and what the certifier awaits of a commit
pub awaits_phase : (m : Parts) (c : CoreState) (tx : ℕ) (touched : List Touch) (s : ℕ) (x : Phase)
    → verdict_in x ≡ Some Committed
    → IsDueBy m c tx touched x s → AwaitsInstall m.certifier tx s
awaits_phase m c tx touched s (phase.Gathering edges) e h = absurd cc
awaits_phase m c tx touched s phase.Committed e h = h.1
awaits_phase m c tx touched s phase.Refused e h = absurd (committed-apart (sym (same_Some Refused Committed e)))

-- ---- the certifier

-- the items that a draft changes
changed-written : (n : ℕ) (ts : List Touch)
    → changed_names ts n ≡ map (λ (w : Name × Change). w.0) (writing_in (at_site n ts))
changed-written n [] = refl
changed-written n (t ∷ ts) = elim (cases_Bool (t.site == n)) [
  | inl here ↦ elim (option_cases t.change) [
    | inl none ↦ rw (here, none) (changed-written n ts)
    | inr some ↦ rw (here, some.1) (ap (λ xs. t.item ∷ xs) (changed-written n ts))
  ]
  | inr other ↦ rw other (changed-written n ts)
]

-- a noted install changes nothing else of the certifier
pub noted-same : (c : CoreState) (tx s : ℕ) → noted c tx s ≡ record c.certifier { installs = (noted c tx s).installs }
noted-same c tx s = elim (cases_Bool (is_committed c tx)) [ inl hit ↦ rw hit refl | inr miss ↦ rw miss refl ]

carries_install : (s t : State) (tx site : ℕ) (items : List Name) → Contains (serial t) tx → Carries s t
    → Carries (with_install s tx site []) (with_install t tx site items)
carries_install s t tx site items member h = record {
  same = ap (λ st. with_install st tx site items) h.same;
  noted =
      install_noted s t tx site items h.noted member;
  fewer = h.fewer;
  lead = h.lead;
}

-- what is awaited at another site stays so
still_unnoted : (s : State) (tx site u : ℕ) (items : List Name) → (u ≡ site → ⊥) → (IsNoted s tx u → ⊥)
    → IsNoted (with_install s tx site items) tx u → ⊥
still_unnoted s tx site u items ne out m =
    let one : Noted = record { tx = tx; site = site; items = items } in
    elim (Contains-append_cases s.installs (one ∷ []) m.1 (m.0, m.2, m.3)) [
      | inl was ↦ out (was.0, m.1, was.1, was.2, m.4)
      | inr last ↦ elim (contains-cases one [] m.1 last) [
        | inl e ↦ ne (sym (ap (λ (x : Noted). x.site) e ∙ m.4.1))
        | inr none ↦ contains-none m.1 none
      ]
    ]

pub awaits_stays : (verdict : Ending) (old new : State) (s tx u : ℕ) → IsNotedBy verdict old new s tx → (u ≡ s → ⊥)
    → AwaitsInstall old tx u → AwaitsInstall new tx u
awaits_stays Refused old new s tx u is ne h = subst (λ (k : State). AwaitsInstall k tx u) (sym is) h
awaits_stays Withdrawn old new s tx u is ne h = subst (λ (k : State). AwaitsInstall k tx u) (sym is) h
awaits_stays Committed old new s tx u is ne h =
    λ n. still_unnoted old tx s u [] ne h (subst (λ (st : State). IsNoted st tx u) is.after n)

-- the certifier carries what the model notes
pub carries_noted : (verdict : Ending) (m : Parts) (c : CoreState) (new : State) (s tx : ℕ) → IsVerdict c verdict tx
    → IsNotedBy verdict m.certifier new s tx → Carries m.certifier c.certifier
    → Carries new (noted c tx s)
carries_noted Committed m c new s tx v is h =
    let hit : is_committed c tx ≡ true = (is_in-Decides c.certifier.order tx).1 (v.committed refl) in
    let items = map (λ (d : Name × Change). d.0) (c.changes tx s) in
    rw hit (subst (λ (st : State). Carries st (with_install c.certifier tx s items)) (sym is.after)
    (carries_install m.certifier c.certifier tx s items
    (Contains-append_right c.certifier.past c.certifier.order tx (v.committed refl)) h))
carries_noted Refused m c new s tx v is h =
    let miss : is_committed c tx ≡ false = elim (cases_Bool (is_committed c tx)) [
      | inl hit ↦ absurd (v.refused refl ((is_in-Decides c.certifier.order tx).0 hit))
      | inr miss ↦ miss
    ] in
    rw miss (subst (λ (k : State). Carries k c.certifier) (sym is) h)
carries_noted Withdrawn m c new s tx v is h = absurd (v.ruled refl)

-- ---- the handles

handle_stays : (s t : State) (installs : List Noted) → t ≡ record s { installs = installs } → (i : Install)
    → IsHandleOf s i → IsHandleOf t i
handle_stays s t installs is i h = subst (λ (st : State). IsHandleOf st i) (sym is) h

pub handles_by : (verdict : Ending) (s : State) (tx slot : ℕ) (handle : Handle) (installed : List Install)
    → (verdict ≡ Committed → Contains s.order tx) → tx ≡ suc (s.before + slot)
    → handle ≡ record { index = slot; generation = s.generation }
    → ((i : Install) → Contains installed i → IsHandleOf s i)
    → (i : Install) → Contains (installed_by verdict installed (record { tx = tx; handle = handle })) i → IsHandleOf s i
handles_by Refused s tx slot handle installed order number is h i m = h i m
handles_by Withdrawn s tx slot handle installed order number is h i m = h i m
handles_by Committed s tx slot handle installed order number is h i m =
    let one : Install = record { tx = tx; handle = handle } in
    elim (Contains-append_cases installed (one ∷ []) i m) [
      | inl was ↦ h i was
      | inr last ↦ elim (contains-cases one [] i last) [
        | inl same ↦ subst (IsHandleOf s) same (inl (
          ap (λ (g : Handle). g.generation) is,
          number ∙ ap (λ (g : Handle). suc (s.before + g.index)) (sym is),
          order refl,
        ))
        | inr none ↦ absurd (contains-none i none)
      ]
    ]

-- ---- the block

block_some : (verdict : Ending) (tx : ℕ) (cs : List (Name × Change)) → block_of verdict tx cs ≡ [] → ⊥
block_some Committed tx cs e = no_block (as_changes tx cs) (entry.Commit tx) e
block_some Refused tx cs e = no_block (as_wants tx cs) (entry.Refuse tx) e
block_some Withdrawn tx cs e = absurd cc

-- a block is due where the machine says so
pub due_some : (m : Parts) (c : CoreState) (tx : ℕ) (touched : List Touch) (s : ℕ) (verdict : Ending) (x : Phase)
    → verdict_in x ≡ Some verdict
    → IsDueBy m c tx touched x s → c.due s ≡ [] → ⊥
due_some m c tx touched s verdict x e h none =
    block_some verdict tx (c.changes tx s) (sym (due_phase m c tx touched s verdict x e h) ∙ none)

-- ---- the state behind the block

-- the state with the block in the log, while the step is open
abbrev pub written_state : CoreState → ℕ → ℕ → CoreState
written_state c tx s = record (with_entries c (only_at s (c.due s))) {
  certifier = noted c tx s;
  due =
      changed_at s [] c.due;
}

-- the open step of the transaction at this place of the table is decided so, and its block is due at the site
pub record IsToWrite (m : Parts) (c : CoreState) (verdict : Ending) (tx slot s : ℕ) : Type 0 where
  pub open_step : Open
  pub is : m.step ≡ Some open_step
  pub own : open_step.tx ≡ tx
  pub verdict_is : verdict_in open_step.phase ≡ Some verdict
  pub number : tx ≡ suc (m.before + slot)
  pub running : Running
  pub runs : slice_get m.table slot ≡ Some (Some running)
  pub place : Place
  pub there : slice_get m.places s ≡ Some place
  pub due : place.part ≡ Due

module _ (m : Parts) (c : CoreState) (s : StandsFor m c) (verdict : Ending) (tx slot t : ℕ)
    (w : IsToWrite m c verdict tx slot t) where
  abbrev k : IsKept c
  k = reached_kept c s.reached

  abbrev o : Open
  o = w.open_step

  abbrev r : Running
  r = w.running

  abbrev p : Place
  p = w.place

  abbrev d : CoreState
  d = written_state c tx t

  abbrev more : ℕ → List Entry
  more u = only_at t (c.due t) u

  stepped : IsStep m c (Some o)
  stepped = subst (IsStep m c) w.is s.step

  pub decided_so : IsVerdict c verdict tx
  decided_so = subst (IsVerdict c verdict) w.own (verdict_phase m c o verdict o.phase w.verdict_is stepped.2)

  at_t : IsPlace m c t p
  at_t = s.places t p w.there

  pub due_at : (q : Open) × IsDueAt m c t p q
  due_at = subst (IsPart m c t p) w.due at_t.part

  same_open : due_at.0 ≡ o
  same_open = same_Some due_at.0 o (sym due_at.1.open_step ∙ w.is)

  pub same_slot : due_at.1.place ≡ slot
  same_slot =
      let tx_is : due_at.0.tx ≡ tx = ap (λ (q : Open). q.tx) same_open ∙ w.own in
      let at = due_at.1.tx in
      let number = w.number in
      omega (arith, tx_is, at, number)

  pub same_running : due_at.1.running ≡ r
  same_running =
      same_Some due_at.1.running r (same_Some (Some due_at.1.running) (Some r) (sym due_at.1.there
      ∙ (ap (slice_get m.table) same_slot ∙ w.runs)))

  pub due_of : IsDueBy m c tx r.draft.touched o.phase t
  due_of =
      subst (λ i. IsDueBy m c i r.draft.touched o.phase t) w.own
      (subst (λ (q : Open). IsDueBy m c q.tx r.draft.touched q.phase t) same_open
      (subst (λ (q : Running). IsDueBy m c due_at.0.tx q.draft.touched due_at.0.phase t) same_running due_at.1.due))

  pub touched_there : Touches r.draft.touched t
  touched_there = subst (λ (q : Running). Touches q.draft.touched t) same_running due_at.1.touched

  pub pledged_there : p.site.pledge ≡ Some (record { tx = tx; part = at_site t r.draft.touched })
  pledged_there =
      due_at.1.pledge
      ∙ (ap (λ (q : Open). Some (record { tx = q.tx; part = at_site t due_at.1.running.draft.touched })) same_open
      ∙ (ap (λ i. Some (record { tx = i; part = at_site t due_at.1.running.draft.touched })) w.own
      ∙ ap (λ (q : Running). Some (record { tx = tx; part = at_site t q.draft.touched })) same_running))

  own : IsRunning c m.before slot r
  own = s.running slot (Some r) w.runs

  changes : (u : ℕ) → c.changes tx u ≡ writing_in (at_site u r.draft.touched)
  changes u = ap (λ i. c.changes i u) w.number ∙ own.changes u

  block : c.due t ≡ block_of verdict tx (writing_in (at_site p.site.number r.draft.touched))
  block =
      due_phase m c tx r.draft.touched t verdict o.phase w.verdict_is due_of
      ∙ (ap (block_of verdict tx) (changes t)
      ∙ ap (λ n. block_of verdict tx (writing_in (at_site n r.draft.touched))) (sym at_t.number))

  inside : t < length c.items
  inside = subst (λ n. t < n) (sym (ap length s.items ∙ length-map m.places (λ (q : Place). q.site.items)))
      (slice_get_within m.places t p w.there)

  -- the block reads nothing
  no_read : (u : ℕ) (e : Entry) → Contains (more u) e → IsRead e → ⊥
  no_read u e member read = elim (cases_eq u t) [
    | inl is ↦ (k.sound.legal.sites t inside).due_reads e (subst (λ es. Contains es e) (ap more is
        ∙ only_here t (c.due t)) member) read
    | inr ne ↦ contains-none e (subst (λ es. Contains es e) (only_there t (c.due t) u ne) member)
  ]

  reads_stay : (i u : ℕ) (kept : List (Name × ℕ × ℕ)) → KeepsReads (c.entries u) i kept
      → KeepsReads (d.entries u) i kept
  reads_stay i u kept h y v n = (
    λ member. LogsRead-append (c.entries u) (more u) i y v n ((h y v n).0 member),
    λ logged. (h y v n).1 (LogsRead-cases (c.entries u) (more u) i y v n logged (λ old. old)
        (λ j at is. absurd (no_read u (entry.Read i y v) (Contains-from_at (more u) j _ at) tt))),
  )

  same_state : d.certifier ≡ record c.certifier { installs = d.certifier.installs }
  same_state = noted-same c tx t

  running_stays : (j : ℕ) (x : Option Running) → RunsAt c m.before j x → RunsAt d m.before j x
  running_stays j None h =
      λ member. h (subst (λ (st : State). Contains st.active (suc (m.before + j))) same_state member)
  running_stays j (Some q) h = record {
    active = subst (λ (st : State). Contains st.active (suc (m.before + j))) (sym same_state) h.active;
    handle = h.handle ∙ ap (λ (st : State). record { index = j; generation = st.generation }) (sym same_state);
    rising = h.rising;
    used = h.used;
    changes = h.changes;
    reads = λ u. reads_stay (suc (m.before + j)) u (kept_in (at_site u q.draft.touched)) (h.reads u);
  }

  module _ (n : Parts) (h : Writes verdict m n t slot tx) where
    pub wrote_place : h.block.place ≡ p
    wrote_place = same_Some h.block.place p (sym h.block.there ∙ w.there)

    wrote_running : h.block.running ≡ r
    wrote_running = same_Some h.block.running r (same_Some (Some h.block.running) (Some r) (sym h.block.runs ∙ w.runs))

    abbrev q : Place
    q = record { site = ended_by verdict tx r.handle r.draft.touched p.site; part = Written }

    pub new_places : n.places ≡ slice_set m.places t q
    new_places =
        h.block.is
        ∙ (ap (λ (v : Place). slice_set m.places t (record {
          site = ended_by verdict tx h.block.running.handle h.block.running.draft.touched v.site;
          part = Written;
        })) wrote_place
        ∙ ap (λ (v : Running). slice_set m.places t (record {
          site = ended_by verdict tx v.handle v.draft.touched p.site;
          part = Written;
        }))
        wrote_running)

    same_table : n.table ≡ m.table
    same_table = ap (λ (v : Parts). v.table) h.is

    same_before : n.before ≡ m.before
    same_before = ap (λ (v : Parts). v.before) h.is

    same_step : n.step ≡ m.step
    same_step = ap (λ (v : Parts). v.step) h.is

    -- at another site
    due_elsewhere : (u : ℕ) → (u ≡ t → ⊥) → (i : ℕ) (touched : List Touch) (x : Phase) → i ≡ tx
        → IsDueBy m c i touched x u → IsDueBy n d i touched x u
    due_elsewhere u ne i touched (phase.Gathering edges) is g = cleared_there t c.due u ne ∙ g
    due_elsewhere u ne i touched phase.Committed is g = (
      cleared_there t c.due u ne ∙ g.0,
      subst (λ j. AwaitsInstall n.certifier j u) (sym is)
          (awaits_stays verdict m.certifier n.certifier t tx u h.noted ne
          (subst (λ j. AwaitsInstall m.certifier j u) is g.1)),
    )
    due_elsewhere u ne i touched phase.Refused is g = cleared_there t c.due u ne ∙ g

    part_elsewhere : (u : ℕ) → (u ≡ t → ⊥) → (v : Place) (part : Part) → IsPart m c u v part → IsPart n d u v part
    part_elsewhere u ne v Idle g = (g.0, cleared_there t c.due u ne ∙ g.1, g.2)
    part_elsewhere u ne v Due g =
        let a = g.1 in
        let same : g.0 ≡ o = same_Some g.0 o (sym a.open_step ∙ w.is) in (
          g.0,
          record {
            open_step = same_step ∙ a.open_step;
            place = a.place;
            running = a.running;
            there = ap (λ ts. slice_get ts a.place) same_table ∙ a.there;
            tx = a.tx ∙ ap (λ b. suc (b + a.place)) (sym same_before);
            gathered = a.gathered;
            touched = a.touched;
            pledge = a.pledge;
            due = due_elsewhere u ne g.0.tx a.running.draft.touched g.0.phase (ap (λ (x : Open). x.tx) same
                ∙ w.own) a.due;
          },
        )
    part_elsewhere u ne v Written g = record {
      place = g.place;
      running = g.running;
      there = ap (λ ts. slice_get ts g.place) same_table ∙ g.there;
      decided = ap (λ (st : State). st.step) same_state
          ∙ (g.decided ∙ ap (λ b. Some (suc (b + g.place))) (sym same_before));
      gathered = g.gathered;
      touched = g.touched;
      pledge = g.pledge;
      due = cleared_there t c.due u ne ∙ g.due;
    }

    elsewhere : (u : ℕ) → (u ≡ t → ⊥) → (v : Place) → IsPlace m c u v → IsPlace n d u v
    elsewhere u ne v g = record {
      number = g.number;
      entries = ap (λ es. c.entries u ++ es) (only_there t (c.due t) u ne) ∙ (append-nil (c.entries u) ∙ g.entries);
      handles = λ i member. handle_stays c.certifier d.certifier d.certifier.installs same_state i (g.handles i member);
      apart = g.apart;
      part = part_elsewhere u ne v v.part g.part;
    }

    -- and here
    here : IsPlace n d t q
    here = record {
      number = at_t.number;
      entries = ap (λ es. c.entries t ++ es) (only_here t (c.due t) ∙ block)
          ∙ ap (λ es. es ++ block_of verdict tx (writing_in (at_site p.site.number r.draft.touched))) at_t.entries;
      handles = λ i member. handle_stays c.certifier d.certifier d.certifier.installs same_state i
          (handles_by verdict c.certifier tx slot r.handle p.site.installed decided_so.committed (w.number
          ∙ ap (λ b. suc (b + slot)) (sym s.before)) own.handle at_t.handles i member);
      apart = own_by c.certifier tx slot r.handle p.site.installed (w.number
          ∙ ap (λ b. suc (b + slot)) (sym s.before)) own.handle at_t.handles at_t.apart verdict;
      part = record {
        place = slot;
        running = r;
        there = ap (λ ts. slice_get ts slot) same_table ∙ w.runs;
        decided = ap (λ (st : State). st.step) same_state
            ∙ (decided_so.decided ∙ ap Some (w.number ∙ ap (λ b. suc (b + slot)) (sym same_before)));
        gathered = due_at.1.gathered;
        touched = touched_there;
        pledge = refl;
        due = cleared_here t c.due;
      };
    }

    pub written_places : (u : ℕ) (v : Place) → slice_get n.places u ≡ Some v → IsPlace n d u v
    written_places u v at = elim (cases_eq u t) [
      | inl is ↦
          let now : slice_get (slice_set m.places t q) t ≡ Some q =
          get-slice_set_same m.places t q (slice_get_within m.places t p w.there) in
          let same : q ≡ v =
          same_Some q v (sym now
          ∙ (ap (λ ps. slice_get ps t) (sym new_places) ∙ (ap (slice_get n.places) (sym is) ∙ at))) in
          subst (IsPlace n d u) same (subst (λ i. IsPlace n d i q) (sym is) here)
      | inr ne ↦ elsewhere u ne v (s.places u v (sym (get-slice_set_other m.places t u q ne)
          ∙ (ap (λ ps. slice_get ps u) (sym new_places) ∙ at)))
    ]

    pub written_running : (j : ℕ) (x : Option Running) → slice_get n.table j ≡ Some x → RunsAt d n.before j x
    written_running j x at =
        subst (λ b. RunsAt d b j x) (sym same_before)
        (running_stays j x (s.running j x (ap (λ ts. slice_get ts j) (sym same_table) ∙ at)))

    pub written_items : c.items ≡ map (λ (v : Place). v.site.items) n.places
    written_items = s.items ∙ sym (ap (map (λ (v : Place). v.site.items)) new_places
        ∙ set_map m.places t q p w.there refl)
      where
        set_map : (ps : List Place) (j : ℕ) (a b : Place) → slice_get ps j ≡ Some b → a.site.items ≡ b.site.items
            → map (λ (v : Place). v.site.items) (slice_set ps j a) ≡ map (λ (v : Place). v.site.items) ps
        set_map [] j a b at is = absurd cc
        set_map (v ∷ ps) zero a b at is = ap (λ i. i ∷ map (λ (x : Place). x.site.items) ps) (is
            ∙ ap (λ (x : Place). x.site.items) (sym (same_Some v b at)))
        set_map (v ∷ ps) (suc j) a b at is = ap (λ is. v.site.items ∷ is) (set_map ps j a b at is)

    pub written_carries : Carries n.certifier (noted c tx t)
    written_carries = carries_noted verdict m c n.certifier t tx decided_so h.noted s.certifier

    phase_stays : (x : Phase) → verdict_in x ≡ Some verdict → IsPhase m c o x → IsPhase n d o x
    phase_stays (phase.Gathering edges) e g = absurd cc
    phase_stays phase.Committed e g = (
      ap (λ (st : State). st.step) same_state
          ∙ g.0,
      subst (λ (st : State). Contains st.order o.tx) (sym same_state) g.1,
    )
    phase_stays phase.Refused e g = (
      ap (λ (st : State). st.step) same_state
          ∙ g.0,
      λ member. g.1 (subst (λ (st : State). Contains st.order o.tx) same_state member),
    )

    -- what the machine stands for while the step is open
    pub written_stands : IsReached (written_state c tx t) → StandsFor n (written_state c tx t)
    written_stands reached = record {
      reached = reached;
      sites = s.sites;
      items = written_items;
      certifier = written_carries;
      before = ap (λ (st : State). st.before) same_state ∙ (s.before ∙ sym same_before);
      begun = ap (λ (st : State). st.begun) same_state ∙ (s.begun ∙ ap (λ (v : Parts). v.begun) (sym h.is));
      window = ap (λ (v : Parts). v.begun) h.is ∙ (s.window ∙ ap (λ (v : Parts). v.before + length v.table) (sym h.is));
      unborn = λ i u lt. s.unborn i u (subst (λ b. b < i) (ap (λ (v : Parts). v.begun) h.is) lt);
      running = written_running;
      places = written_places;
      step = subst (IsStep n d) (sym (same_step ∙ w.is)) (
        stepped.0,
        stepped.1,
        phase_stays o.phase w.verdict_is stepped.2,
      );
    }
