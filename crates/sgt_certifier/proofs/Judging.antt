-- The parts of a judge, the state that they stand for, and what calls do to it.
use Rattle.std.proofs.Common.{◌≡◌, ◌≢◌, ℕ, suc, ◌+◌, ◌-◌, ◌<◌, ◌≤◌, Bool, true, false, List, [], ◌∷◌, ◌++◌, length, map, Option, Some, None, refl, sym, ◌∙◌, ap, ap₂, subst, arith, inl, inr, All, AllPairs, Any, Contains}
use Rattle.std.specs.Prelude.{slice_get, slice_set, ◌↔◌}
use Rattle.std.proofs.lemmas.List.{length_push, length-set, length-map, map-append}
use Rattle.sgt_names.specs.Limits.{max_sites}
use Rattle.sgt_names.proofs.Places.{All-from_at, All_at}
use Rattle.sgt_arena.specs.declared.handle.Handle.{Handle}
use Rattle.sgt_edges.specs.declared.edge.Edge.{Edge}
use Rattle.sgt_order.proofs.Handles.{same_handle}
use Rattle.sgt_certifier.specs.declared.judge.Judge.TheInside.{Inside}
use Rattle.sgt_certifier.specs.declared.call.Call.TheVariants as call
use Rattle.sgt_certifier.specs.declared.call.CertifierFault.TheVariants as fault
use Rattle.sgt_certifier.specs.Certifier.{State, Arc, Install, Ruling, withdrawn, without, serial, with_begun, with_finished, with_withdrawn, with_install, with_closed}
use Rattle.sgt_certifier.specs.History.{begin, finish, withdraw, close, installed, IsAllowed, IsActive, IsInstalling, IsNoted, Serves}
use Rattle.sgt_certifier.specs.Kept.{tx_at, arc_at, flagged, state_by}
use Rattle.sgt_certifier.specs.Judged.{Ends, IsJudged, Notes, note_at, notes_of, ruling_from}
use Rattle.sgt_certifier.specs.Sound.{IsGoodState}
use Rattle.sgt_certifier.proofs.Flags.{flagged_push, flagged_drop, flagged_less, flagged_member, flag_at}
use Rattle.sgt_certifier.proofs.Installs.{distinct_few}
use Rattle.sgt_certifier.proofs.Keeping.{renoted-sound}
use Rattle.sgt_certifier.proofs.Replaying.{serves-good, no_step, no_active, installing}
use Rattle.sgt_certifier.proofs.Ruling.{AllPairs-push, renoted-ruled}
use Rattle.sgt_certifier.proofs.Transfer.{contains_map, map_contains}
use Rattle.sgt_names.proofs.Elements.{contains-none, get-push_cases}

by_fields : ℕ → ℕ → ℕ → List ℕ → List ℕ → List ℕ → List Arc → Option ℕ → List Ruling → List Install → State
by_fields a b c d e f g h i j = record {
  begun = a;
  before = b;
  generation = c;
  active = d;
  past = e;
  order =
      f;
  arcs = g;
  step = h;
  rulings = i;
  installs = j;
}

pub same_state : (s t : State) → s.begun ≡ t.begun → s.before ≡ t.before → s.generation ≡ t.generation
    → s.active ≡ t.active → s.past ≡ t.past → s.order ≡ t.order → s.arcs ≡ t.arcs → s.step ≡ t.step
    → s.rulings ≡ t.rulings → s.installs ≡ t.installs → s ≡ t
unfolding by_fields
same_state s t a b c d e f g h i j =
    let p : by_fields s.begun s.before s.generation s.active s.past s.order s.arcs s.step s.rulings s.installs
    ≡ by_fields t.begun t.before t.generation t.active t.past t.order t.arcs t.step t.rulings t.installs = cc in p

pub record Parts : Type 0 where
  pub begun : ℕ
  pub before : ℕ
  pub generation : ℕ
  pub flags : List Bool
  pub past : List ℕ
  pub order : List Handle
  pub edges : List Edge
  pub step : Option ℕ
  pub rulings : List Ruling
  pub noted : List ℕ

abbrev pub parts_of : Inside → Parts
parts_of c = record {
  begun = c.begun;
  before = c.before;
  generation = c.graph.generation;
  flags = c.flags.items;
  past = c.past.items;
  order = c.graph.order;
  edges = c.graph.edges;
  step = c.step;
  rulings = map ruling_from c.rulings.items;
  noted = c.noted.items;
}

abbrev pub state_of : Parts → State
state_of p = state_by p.begun p.before p.generation p.flags p.past p.order p.edges p.step p.rulings
    (notes_of p.step p.noted)

abbrev pub IsSound : Parts → (node_count active_count room : ℕ) → Type 0
IsSound p n a room = IsJudged (state_of p) p.flags p.noted n a room

-- while no step is open, nothing is noted
pub none_kept : (p : Parts) (n a room : ℕ) → IsSound p n a room → p.step ≡ None → p.noted ≡ []
none_kept p n a room k idle = k.closed idle

-- the notes of a step that has none
pub no_notes : (step : Option ℕ) (sites : List ℕ) → sites ≡ [] → notes_of step sites ≡ []
no_notes None sites e = refl
no_notes (Some tx) sites e = ap (map (note_at tx)) e

idle_not : {t : ℕ} (step : Option ℕ) → step ≡ None → step ≡ Some t → ⊥
idle_not step idle open_t = let f = sym idle ∙ open_t in cc

-- ---- begin

pub begin_allowed : (s : State) → s.begun - s.before < 4096 → s.step ≡ None → suc s.begun < 4294967296
    → IsAllowed s begin
begin_allowed s room idle numbers fault.WindowFull f = omega (arith, room, f)
begin_allowed s room idle numbers (fault.StepOpen tx) f = let g : None ≡ Some tx = sym idle ∙ f in absurd cc
begin_allowed s room idle numbers fault.NumbersSpent f = omega (arith, numbers, f)
begin_allowed s room idle numbers _ f = f

pub begun_serves : (p q : Parts) (tx : ℕ) (h : Handle) → IsAllowed (state_of p) begin
    → p.begun ≡ p.before + length p.flags
    → tx ≡ suc p.begun → h.index ≡ length p.flags → h.generation ≡ p.generation
    → q.begun ≡ suc p.begun → q.before ≡ p.before → q.generation ≡ p.generation → q.flags ≡ p.flags ++ true ∷ []
    → q.past ≡ p.past → q.order ≡ p.order → q.edges ≡ p.edges → q.step ≡ p.step → q.rulings ≡ p.rulings
    → q.noted ≡ p.noted
    → Serves (state_of p) (call.Begin tx h) (state_of q)
begun_serves p q tx h allowed window is_tx index generation b bf g fl pa o e st ru noted_is =
    let s = state_of p in
    let handle : h ≡ record { index = p.begun - p.before; generation = p.generation } =
    same_handle h (record { index = p.begun - p.before; generation = p.generation })
    (omega (arith, index, window)) generation in
    let active : flagged q.before q.flags ≡ flagged p.before p.flags ++ suc p.begun ∷ [] =
    ap (λ n. flagged n q.flags) bf
    ∙ (ap (flagged p.before) fl
    ∙ (flagged_push p.before p.flags ∙ ap (λ n. flagged p.before p.flags ++ suc n ∷ []) (sym window))) in
    let order : map (tx_at q.before) q.order ≡ map (tx_at p.before) p.order = ap (λ n. map (tx_at n) q.order) bf
    ∙ ap (map (tx_at p.before)) o in
    let arcs : map (arc_at q.before) q.edges ≡ map (arc_at p.before) p.edges = ap (λ n. map (arc_at n) q.edges) bf
    ∙ ap (map (arc_at p.before)) e in (
      allowed,
      (
        is_tx,
        handle,
        same_state (state_of q) (with_begun s) b bf g active pa order arcs st ru
            (ap₂ notes_of st noted_is),
      ),
    )

pub begun_kept : (p q : Parts) (tx : ℕ) (h : Handle) (n a room n2 a2 room2 : ℕ) → IsSound p n a room
    → Serves (state_of p) (call.Begin tx h) (state_of q) → p.step ≡ None → q.flags ≡ p.flags ++ true ∷ []
    → q.noted ≡ p.noted → n2 ≡ n + 1 → a2 ≡ a + 1
    → IsSound q n2 a2 room2
begun_kept p q tx h n a room n2 a2 room2 k serves idle flags noted_is n_is a_is =
    let next = serves.1.2 in
    let long = ap length flags ∙ length_push p.flags true in
    record {
      good = serves-good (state_of p) (call.Begin tx h) (state_of q) k.good serves;
      nodes = omega (arith, k.nodes, long, n_is);
      window = omega (arith, ap (λ (s : State). s.begun) next, ap (λ (s : State). s.before) next, k.window, long);
      running = omega (
        arith,
        k.running,
        a_is,
        ap (λ (s : State). length s.active) next,
        length_push (flagged p.before p.flags) (suc p.begun),
      );
      closed = λ none. noted_is ∙ k.closed idle;
      below = subst (All (λ site. site < max_sites)) (sym noted_is) k.below;
      once = subst (AllPairs (λ x y. x ≢ y)) (sym noted_is) k.once;
      spare = λ t open_t. absurd (idle_not q.step (ap (λ (s : State). s.step) next ∙ idle) open_t);
    }

-- ---- finish

pub finish_allowed : (s : State) (tx : ℕ) → s.step ≡ Some tx → IsAllowed s (finish tx)
finish_allowed s tx open_tx fault.Unknown f = f open_tx
finish_allowed s tx open_tx _ f = f

-- the place of the open step's flag
pub open_place : (p : Parts) (tx : ℕ) → IsGoodState (state_of p) → p.step ≡ Some tx
    → (k : ℕ) × (tx ≡ suc (p.before + k)) × (slice_get p.flags k ≡ Some true)
open_place p tx good open_tx = flagged_member p.before p.flags tx (good.sound.open_active tx open_tx)

pub finished_ends : (p q : Parts) (tx k : ℕ) → p.step ≡ Some tx → tx ≡ suc (p.before + k)
    → q.begun ≡ p.begun → q.before ≡ p.before → q.generation ≡ p.generation → q.flags ≡ slice_set p.flags k false
    → q.past ≡ p.past → q.order ≡ p.order → q.edges ≡ p.edges → q.step ≡ None → q.rulings ≡ p.rulings
    → Ends (state_of p) tx (state_of q)
finished_ends p q tx k open_tx at b bf g fl pa o e st ru =
    let s = state_of p in
    let active : flagged q.before q.flags ≡ without tx (flagged p.before p.flags) =
    ap (λ n. flagged n q.flags) bf
    ∙ (ap (flagged p.before) fl
    ∙ (flagged_drop p.before p.flags k ∙ ap (λ t. without t (flagged p.before p.flags)) (sym at))) in
    let order : map (tx_at q.before) q.order ≡ map (tx_at p.before) p.order = ap (λ n. map (tx_at n) q.order) bf
    ∙ ap (map (tx_at p.before)) o in
    let arcs : map (arc_at q.before) q.edges ≡ map (arc_at p.before) p.edges = ap (λ n. map (arc_at n) q.edges) bf
    ∙ ap (map (arc_at p.before)) e in
    record {
      allowed = finish_allowed s tx open_tx;
      after = same_state (state_of q) (record (with_finished s tx) { installs = [] }) b bf g active pa order arcs st
          ru (ap (λ (t : Option ℕ). notes_of t q.noted) st);
    }

-- a state without installs is good as it was
renoted : (s : State) → IsGoodState s → IsGoodState (record s { installs = [] })
renoted s g = record {
  sound = renoted-sound s [] g.sound;
  ruled = renoted-ruled s [] g.ruled;
  installed = record {
    committed = λ install c. absurd (contains-none install c);
    once =
        λ i j d lt within. absurd (omega (arith, within));
  };
}

pub ends_good : (s t : State) (tx : ℕ) → IsGoodState s → Ends s tx t → IsGoodState t
ends_good s t tx g ends =
    subst IsGoodState (sym ends.after)
    (renoted (with_finished s tx) (serves-good s (call.Finish tx) (with_finished s tx) g (ends.allowed, refl)))

pub finished_kept : (p q : Parts) (tx k : ℕ) (n a room n2 a2 room2 : ℕ) → IsSound p n a room
    → Ends (state_of p) tx (state_of q) → q.before ≡ p.before → q.flags ≡ slice_set p.flags k false
    → slice_get p.flags k ≡ Some true → q.noted ≡ [] → n2 ≡ n → a2 ≡ a - 1
    → IsSound q n2 a2 room2
finished_kept p q tx k n a room n2 a2 room2 kept ends bf flags here none n_is a_is =
    let next = ends.after in
    let long = ap length flags ∙ length-set p.flags k false in
    let active : flagged q.before q.flags ≡ flagged p.before (slice_set p.flags k false) =
    ap (λ m. flagged m q.flags) bf ∙ ap (flagged p.before) flags in
    record {
      good = ends_good (state_of p) (state_of q) tx kept.good ends;
      nodes = omega (arith, kept.nodes, long, n_is);
      window = omega (arith, ap (λ (s : State). s.begun) next, bf, kept.window, long);
      running = omega (arith, kept.running, a_is, ap length active, flagged_less p.before p.flags k here);
      closed = λ idle. none;
      below = subst (All (λ site. site < max_sites)) (sym none) (λ i d lt. absurd (omega (arith, lt)));
      once = subst (AllPairs (λ x y. x ≢ y)) (sym none) (λ i j d lt within. absurd (omega (arith, within)));
      spare = λ t open_t. absurd (idle_not q.step (ap (λ (s : State). s.step) next) open_t);
    }

-- ---- withdraw

pub withdraw_allowed : (s : State) (h : Handle) → IsActive s h → s.step ≡ None → IsAllowed s (withdraw h)
withdraw_allowed s h active idle (fault.StepOpen tx) f = let g : None ≡ Some tx = sym idle ∙ f in absurd cc
withdraw_allowed s h active idle fault.Unknown f = f active
withdraw_allowed s h active idle _ f = f

pub withdrawn_serves : (p q : Parts) (h : Handle) (number : ℕ) → IsAllowed (state_of p) (withdraw h)
    → number ≡ length p.rulings
    → q.begun ≡ p.begun → q.before ≡ p.before → q.generation ≡ p.generation
    → q.flags ≡ slice_set p.flags h.index false → q.past ≡ p.past → q.order ≡ p.order → q.edges ≡ p.edges
    → q.step ≡ p.step → q.rulings ≡ p.rulings ++ withdrawn (tx_at p.before h) ∷ [] → q.noted ≡ p.noted
    → Serves (state_of p) (call.Withdraw h number) (state_of q)
withdrawn_serves p q h number allowed count b bf g fl pa o e st ru noted_is =
    let s = state_of p in
    let active : flagged q.before q.flags ≡ without (tx_at p.before h) (flagged p.before p.flags) =
    ap (λ n. flagged n q.flags) bf ∙ (ap (flagged p.before) fl ∙ flagged_drop p.before p.flags h.index) in
    let order : map (tx_at q.before) q.order ≡ map (tx_at p.before) p.order = ap (λ n. map (tx_at n) q.order) bf
    ∙ ap (map (tx_at p.before)) o in
    let arcs : map (arc_at q.before) q.edges ≡ map (arc_at p.before) p.edges = ap (λ n. map (arc_at n) q.edges) bf
    ∙ ap (map (arc_at p.before)) e in (
      allowed,
      (
        count,
        same_state (state_of q) (with_withdrawn s (tx_at p.before h)) b bf g active pa order arcs st ru
            (ap₂ notes_of st noted_is),
      ),
    )

pub withdrawn_kept : (p q : Parts) (h : Handle) (number : ℕ) (n a room n2 a2 room2 : ℕ) → IsSound p n a room
    → Serves (state_of p) (call.Withdraw h number) (state_of q) → p.step ≡ None → IsActive (state_of p) h
    → q.before ≡ p.before → q.flags ≡ slice_set p.flags h.index false → q.noted ≡ p.noted → n2 ≡ n → a2 ≡ a - 1
    → IsSound q n2 a2 room2
withdrawn_kept p q h number n a room n2 a2 room2 kept serves idle is_active bf flags noted_is n_is a_is =
    let next = serves.1.1 in
    let long = ap length flags ∙ length-set p.flags h.index false in
    let active : flagged q.before q.flags ≡ flagged p.before (slice_set p.flags h.index false) =
    ap (λ m. flagged m q.flags) bf ∙ ap (flagged p.before) flags in
    record {
      good = serves-good (state_of p) (call.Withdraw h number) (state_of q) kept.good serves;
      nodes = omega (arith, kept.nodes, long, n_is);
      window = omega (arith, ap (λ (s : State). s.begun) next, bf, kept.window, long);
      running =
          omega (
            arith,
            kept.running,
            a_is,
            ap length active,
            flagged_less p.before p.flags h.index (flag_at p.before p.flags h.index is_active.1),
          );
      closed = λ none. noted_is ∙ kept.closed idle;
      below = subst (All (λ site. site < max_sites)) (sym noted_is) kept.below;
      once = subst (AllPairs (λ x y. x ≢ y)) (sym noted_is) kept.once;
      spare = λ t open_t. absurd (idle_not q.step (ap (λ (s : State). s.step) next ∙ idle) open_t);
    }

-- ---- close

pub close_allowed : (s : State) → s.step ≡ None → length s.active ≡ 0 → suc s.generation < 4294967296
    → IsAllowed s close
close_allowed s idle none more (fault.StepOpen tx) f = let g : None ≡ Some tx = sym idle ∙ f in absurd cc
close_allowed s idle none more (fault.ActiveLeft n) f = omega (arith, none, f.0, f.1)
close_allowed s idle none more fault.GenerationsSpent f = omega (arith, more, f)
close_allowed s idle none more _ f = f

-- what may be closed
pub may_close : (s : State) → IsAllowed s close → (s.step ≡ None) × (s.active ≡ []) × (suc s.generation < 4294967296)
may_close s allowed = (
  no_step s (λ t. allowed (fault.StepOpen t)),
  no_active s (λ n. allowed (fault.ActiveLeft n)),
  omega (arith, allowed fault.GenerationsSpent),
)

pub closed_serves : (p q : Parts) (ranks : ℕ) → IsAllowed (state_of p) close → ranks ≡ length (serial (state_of p))
    → q.begun ≡ p.begun → q.before ≡ p.begun → q.generation ≡ suc p.generation → q.flags ≡ []
    → q.past ≡ p.past ++ map (tx_at p.before) p.order → q.order ≡ [] → q.edges ≡ [] → q.step ≡ p.step
    → q.rulings ≡ p.rulings → q.noted ≡ p.noted
    → Serves (state_of p) (call.Close ranks) (state_of q)
closed_serves p q ranks allowed count b bf g fl pa o e st ru noted_is =
    let s = state_of p in
    let none = (may_close s allowed).1 in
    let active : flagged q.before q.flags ≡ flagged p.before p.flags = ap (flagged q.before) fl ∙ sym none in
    let order : map (tx_at q.before) q.order ≡ [] = ap (map (tx_at q.before)) o in
    let arcs : map (arc_at q.before) q.edges ≡ [] = ap (map (arc_at q.before)) e in (
      allowed,
      (count, same_state (state_of q) (with_closed s) b bf g active pa order arcs st ru (ap₂ notes_of st noted_is)),
    )

pub closed_kept : (p q : Parts) (ranks : ℕ) (n a room n2 room2 : ℕ) → IsSound p n a room
    → Serves (state_of p) (call.Close ranks) (state_of q) → q.begun ≡ p.begun → q.before ≡ p.begun → q.flags ≡ []
    → q.noted ≡ p.noted → n2 ≡ 0
    → IsSound q n2 a room2
closed_kept p q ranks n a room n2 room2 kept serves b bf flags noted_is n_is =
    let next = serves.1.1 in
    let idle = (may_close (state_of p) serves.0).0 in
    record {
      good = serves-good (state_of p) (call.Close ranks) (state_of q) kept.good serves;
      nodes = omega (arith, n_is, ap length flags);
      window = omega (arith, b, bf, ap length flags);
      running = kept.running ∙ sym (ap (λ (s : State). length s.active) next);
      closed = λ none. noted_is ∙ kept.closed idle;
      below = subst (All (λ site. site < max_sites)) (sym noted_is) kept.below;
      once = subst (AllPairs (λ x y. x ≢ y)) (sym noted_is) kept.once;
      spare = λ t open_t. absurd (idle_not q.step (ap (λ (s : State). s.step) next ∙ idle) open_t);
    }

-- ---- installs

-- the sites that are noted are those of the installs that a judge tells
pub is_noted : (step : Option ℕ) (sites : List ℕ) (tx site : ℕ) → step ≡ Some tx
    → Contains sites site ↔ Any (λ (x : Install). (x.tx ≡ tx) × (x.site ≡ site)) (notes_of step sites)
is_noted step sites tx site open_tx =
    subst (λ st. Contains sites site ↔ Any (λ (x : Install). (x.tx ≡ tx) × (x.site ≡ site)) (notes_of st sites))
    (sym open_tx) (
      λ c.
          let m = contains_map (note_at tx) sites site c in
          (m.0, note_at tx site, m.1, m.2, (refl, refl)),
      λ m.
          let of = map_contains (note_at tx) sites m.1 (m.0, m.2, m.3) in
          let same : of.0 ≡ site = ap (λ (x : Install). x.site) of.2 ∙ m.4.1 in
          subst (Contains sites) same of.1,
    )

pub installed_allowed : (s : State) (tx site : ℕ) → IsInstalling s tx → (IsNoted s tx site → ⊥)
    → IsAllowed s (installed tx site)
installed_allowed s tx site is_open new fault.Unknown f = elim f [ inl none ↦ none is_open | inr noted ↦ new noted ]
installed_allowed s tx site is_open new _ f = f

-- what may be noted
pub may_note : (s : State) (tx site : ℕ) → IsAllowed s (installed tx site) → IsInstalling s tx × (IsNoted s tx site → ⊥)
may_note s tx site allowed = (installing s tx (λ n. allowed fault.Unknown (inl n)), λ n. allowed fault.Unknown (inr n))

-- a new site among those that are noted
pub noted_next : (p : Parts) (tx site n a room : ℕ) → IsSound p n a room → IsAllowed (state_of p) (installed tx site)
    → site < max_sites
    → AllPairs (λ x y. x ≢ y) (p.noted ++ site ∷ []) × All (λ k. k < max_sites) (p.noted ++ site ∷ [])
noted_next p tx site n a room kept allowed below =
    let may = may_note (state_of p) tx site allowed in (
      AllPairs-push (λ x y. x ≢ y) p.noted site kept.once
          (λ k c same. may.1 ((is_noted p.step p.noted tx site may.0.0).0 (subst (Contains p.noted) same c))),
      All-from_at (λ k. k < max_sites) (p.noted ++ site ∷ []) (λ i k at_i. elim (get-push_cases p.noted site i k at_i) [
        | inl was ↦ All_at (λ k. k < max_sites) p.noted i k kept.below was
        | inr last ↦ omega (arith, below, last.1)
      ]),
    )

-- there is room for the note, and there are no more notes than sites
pub note_room : (p : Parts) (tx site n a room : ℕ) → IsSound p n a room → IsAllowed (state_of p) (installed tx site)
    → site < max_sites → length p.noted < room
note_room p tx site n a room kept allowed below =
    let next = noted_next p tx site n a room kept allowed below in
    let few = distinct_few max_sites (p.noted ++ site ∷ []) next.0 next.1 in
    let spare = kept.spare tx (may_note (state_of p) tx site allowed).0.0 in
    omega (arith, few, length_push p.noted site, spare)

pub notes_few : (p : Parts) (n a room : ℕ) → IsSound p n a room → length (notes_of p.step p.noted) ≤ max_sites
notes_few p n a room kept = few p.step p.noted (distinct_few max_sites p.noted kept.once kept.below)
  where
    few : (step : Option ℕ) (sites : List ℕ) → length sites ≤ max_sites → length (notes_of step sites) ≤ max_sites
    few None sites h = omega arith
    few (Some tx) sites h = omega (arith, h, length-map sites (note_at tx))

pub noted_notes : (p q : Parts) (tx site : ℕ) → IsAllowed (state_of p) (installed tx site)
    → q ≡ record p { noted = p.noted ++ site ∷ [] } → Notes (state_of p) tx site (state_of q)
noted_notes p q tx site allowed is =
    let may = may_note (state_of p) tx site allowed in
    let r : Parts = record p { noted = p.noted ++ site ∷ [] } in
    let longer : notes_of p.step (p.noted ++ site ∷ []) ≡ notes_of p.step p.noted ++ note_at tx site ∷ [] =
    subst (λ st. notes_of st (p.noted ++ site ∷ []) ≡ notes_of st p.noted ++ note_at tx site ∷ []) (sym may.0.0)
    (map-append (note_at tx) p.noted (site ∷ [])) in
    record {
      allowed = allowed;
      after = ap state_of is
          ∙ same_state (state_of r) (with_install (state_of p) tx site []) refl refl refl refl refl refl refl refl refl
          longer;
    }

pub noted_kept : (p q : Parts) (tx site n a room room2 : ℕ) → IsSound p n a room
    → IsAllowed (state_of p) (installed tx site) → site < max_sites
    → q ≡ record p { noted = p.noted ++ site ∷ [] } → room2 ≡ room → IsSound q n a room2
noted_kept p q tx site n a room room2 kept allowed below is room_is =
    let may = may_note (state_of p) tx site allowed in
    let next = noted_next p tx site n a room kept allowed below in
    let notes = noted_notes p q tx site allowed is in
    let noted_is = ap (λ (r : Parts). r.noted) is in
    let step = ap (λ (r : Parts). r.step) is in
    record {
      good = serves-good (state_of p) (call.Installed tx site []) (state_of q) kept.good (allowed, notes.after);
      nodes = kept.nodes ∙ ap (λ (r : Parts). length r.flags) (sym is);
      window = subst (λ (r : Parts). r.begun ≡ r.before + length r.flags) (sym is) kept.window;
      running = subst (λ (r : Parts). a ≡ length (flagged r.before r.flags)) (sym is) kept.running;
      closed = λ none. absurd (idle_not q.step none (step ∙ may.0.0));
      below = subst (All (λ k. k < max_sites)) (sym noted_is) next.1;
      once = subst (AllPairs (λ x y. x ≢ y)) (sym noted_is) next.0;
      spare = λ t open_t. omega (arith, kept.spare tx may.0.0, room_is);
    }
