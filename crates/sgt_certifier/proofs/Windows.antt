-- The edges that decisions were handed lead forward in the serial order, across closed windows too.
use Rattle.std.proofs.Common.{◌≡◌, ◌≢◌, ◌≤◌, ◌+◌, ◌⊎◌, ℕ, suc, List, [], ◌∷◌, ◌++◌, refl, sym, ◌∙◌, ap, subst, arith, inl, inr, Contains, Some, None}
use Rattle.std.specs.Prelude.{not, ◌==◌, filter}
use Rattle.std.proofs.lemmas.Bool.{true≢false, eq-eqb, cases_eq, cases_lt}
use Rattle.std.proofs.lemmas.Option.{same_Some}
use Rattle.std.proofs.lemmas.List.Elements.{Contains-append_cases, Contains-append_left, Contains-append_right}
use Rattle.sgt_names.proofs.Places.{AllPairs-from_at, AllPairs_at, Contains-from_at}
use Rattle.sgt_names.specs.Name.{Name}
use Rattle.sgt_arena.specs.declared.handle.Handle.{Handle}
use Rattle.sgt_edges.specs.declared.edge.Edge.{Edge}
use Rattle.sgt_order.specs.Graph.{IsTopological, IsAcyclic}
use Rattle.sgt_order.proofs.Handles.{same_handle}
use Rattle.sgt_certifier.specs.Sound.{IsGoodState}
use Rattle.sgt_certifier.specs.declared.call.Decided.TheVariants.{Committed, Refused}
use Rattle.sgt_certifier.specs.declared.call.Call.{Call}
use Rattle.sgt_certifier.specs.declared.call.Call.TheVariants as call
use Rattle.sgt_certifier.specs.declared.call.CertifierFault.TheVariants as fault
use Rattle.sgt_certifier.specs.Certifier.{State, Arc, Joins, opening, serial, with_begun, with_finished, with_withdrawn, with_install, with_closed, Commits}
use Rattle.sgt_certifier.specs.History.{tx_under, IsHere, IsOlder, IsActive, IsKnown, Fits, arcs_of, next_handle, decide, IsAllowed, Serves, RunsFrom, Replays}
use Rattle.sgt_certifier.specs.Handed.{HandsAt, HandsFrom, Hands, HandsCommitted}
use Rattle.sgt_certifier.proofs.Members.{AllPairs-append, filter_member, member_filter, placed_member, topological_is_acyclic}
use Rattle.sgt_certifier.proofs.Keeping.{uncommitted}
use Rattle.sgt_certifier.proofs.Transfer.{contains_map}
use Rattle.sgt_certifier.proofs.Replaying.{contains_cases, no_step, open_step, no_active, active_under, serves-good, replays-good}
use Rattle.sgt_names.proofs.Elements.{contains-cases, contains-none}

-- ---- what begins under a handle

pub record IsNamed (seen : List Call) (s : State) : Type 0 where
  pub window : (t : ℕ) (h : Handle) → Contains seen (call.Begin t h)
      → (IsHere s h × (t ≡ tx_under s h)) ⊎ (IsOlder s h × (t ≤ s.before))
  pub begun : (t : ℕ) (h : Handle) → Contains seen (call.Begin t h) → t ≤ s.begun

named_same : (seen : List Call) (c : Call) (s t : State) → t.begun ≡ s.begun → t.before ≡ s.before
    → t.generation ≡ s.generation → ((n : ℕ) (h : Handle) → c ≡ call.Begin n h → ⊥) → IsNamed seen s
    → IsNamed (seen ++ c ∷ []) t
named_same seen c s t begun before generation other n =
    let was : (m : ℕ) (h : Handle) → Contains (seen ++ c ∷ []) (call.Begin m h) → Contains seen (call.Begin m h) =
    λ m h k. elim (Contains-append_cases seen (c ∷ []) (call.Begin m h) k) [
      | inl old ↦ old
      | inr last ↦ elim (contains-cases c [] (call.Begin m h) last) [
        | inl e ↦ absurd (other m h e)
        | inr none ↦ absurd (contains-none (call.Begin m h) none)
      ]
    ] in
    record {
      window = λ m h k. elim (n.window m h (was m h k)) [
        | inl here ↦ inl (here.0 ∙ sym generation, here.1 ∙ ap (λ b. suc (b + h.index)) (sym before))
        | inr older ↦ inr (omega (arith, older.0, generation), omega (arith, older.1, before))
      ];
      begun = λ m h k. let le = n.begun m h (was m h k) in omega (arith, le, begun);
    }

named_begun : (seen : List Call) (s : State) (tx : ℕ) (h : Handle) → s.before ≤ s.begun → tx ≡ suc s.begun
    → h ≡ next_handle s → IsNamed seen s → IsNamed (seen ++ call.Begin tx h ∷ []) (with_begun s)
named_begun seen s tx h window is_tx is_h n = record {
  window = λ m g k. elim (Contains-append_cases seen (call.Begin tx h ∷ []) (call.Begin m g) k) [
    | inl old ↦ n.window m g old
    | inr last ↦ elim (contains-cases (call.Begin tx h) [] (call.Begin m g) last) [
      | inl e ↦
          let tx_is : tx ≡ m = cc in
          let h_is : h ≡ g = cc in
          let next : g ≡ next_handle s = sym h_is ∙ is_h in
          let index = ap (λ (x : Handle). x.index) next in
          inl (ap (λ (x : Handle). x.generation) next, omega (arith, tx_is, is_tx, index, window))
      | inr none ↦ absurd (contains-none (call.Begin m g) none)
    ]
  ];
  begun = λ m g k. elim (Contains-append_cases seen (call.Begin tx h ∷ []) (call.Begin m g) k) [
    | inl old ↦ let le = n.begun m g old in omega (arith, le)
    | inr last ↦ elim (contains-cases (call.Begin tx h) [] (call.Begin m g) last) [
      | inl e ↦ let tx_is : tx ≡ m = cc in omega (arith, tx_is, is_tx)
      | inr none ↦ absurd (contains-none (call.Begin m g) none)
    ]
  ];
}

named_closed : (seen : List Call) (s : State) (ranks : ℕ) → IsNamed seen s → s.before ≤ s.begun
    → IsNamed (seen ++ call.Close ranks ∷ []) (with_closed s)
named_closed seen s ranks n window =
    let was : (m : ℕ) (h : Handle) → Contains (seen ++ call.Close ranks ∷ []) (call.Begin m h)
    → Contains seen (call.Begin m h) =
    λ m h k. elim (Contains-append_cases seen (call.Close ranks ∷ []) (call.Begin m h) k) [
      | inl old ↦ old
      | inr last ↦ elim (contains-cases (call.Close ranks) [] (call.Begin m h) last) [
        | inl e ↦ absurd cc
        | inr none ↦ absurd (contains-none (call.Begin m h) none)
      ]
    ] in
    record {
      window = λ m h k. elim (n.window m h (was m h k)) [
        | inl here ↦ inr (omega (arith, here.0), n.begun m h (was m h k))
        | inr older ↦ inr (omega (arith, older.0), n.begun m h (was m h k))
      ];
      begun = λ m h k. n.begun m h (was m h k);
    }

pub serves_named : (seen : List Call) (old : State) (c : Call) (new : State) → IsGoodState old → Serves old c new
    → IsNamed seen old → IsNamed (seen ++ c ∷ []) new
serves_named seen old (call.Begin tx h) new g r n =
    subst (IsNamed (seen ++ call.Begin tx h ∷ [])) (sym r.1.2) (named_begun seen old tx h g.sound.window r.1.0 r.1.1 n)
serves_named seen old (call.Decide h edges (Committed number)) new g r n = let a = r.1.1.after in
    named_same seen (call.Decide h edges (Committed number)) old new (ap (λ (s : State). s.begun) a)
    (ap (λ (s : State). s.before) a) (ap (λ (s : State). s.generation) a) (λ m k e. absurd cc) n
serves_named seen old (call.Decide h edges (Refused number walk)) new g r n = let a = r.1.1.after in
    named_same seen (call.Decide h edges (Refused number walk)) old new (ap (λ (s : State). s.begun) a)
    (ap (λ (s : State). s.before) a) (ap (λ (s : State). s.generation) a) (λ m k e. absurd cc) n
serves_named seen old (call.Finish tx) new g r n = let a = r.1 in
    named_same seen (call.Finish tx) old new (ap (λ (s : State). s.begun) a) (ap (λ (s : State). s.before) a)
    (ap (λ (s : State). s.generation) a) (λ m k e. absurd cc) n
serves_named seen old (call.Withdraw h number) new g r n = let a = r.1.1 in
    named_same seen (call.Withdraw h number) old new (ap (λ (s : State). s.begun) a) (ap (λ (s : State). s.before) a)
    (ap (λ (s : State). s.generation) a) (λ m k e. absurd cc) n
serves_named seen old (call.Close ranks) new g r n =
    subst (IsNamed (seen ++ call.Close ranks ∷ [])) (sym r.1.1) (named_closed seen old ranks n g.sound.window)
serves_named seen old (call.Installed tx site items) new g r n = let a = r.1 in
    named_same seen (call.Installed tx site items) old new (ap (λ (s : State). s.begun) a)
    (ap (λ (s : State). s.before) a) (ap (λ (s : State). s.generation) a) (λ m k e. absurd cc) n

-- ---- edges that lead forward

-- edges whose ends are decided, that lead forward in the serial order; those of this window are among its edges
pub record IsForward (edge : ℕ → ℕ → Type 0) (s : State) : Type 0 where
  pub apart : (a b : ℕ) → edge a b → a ≢ b
  pub from_decided : (a b : ℕ) → edge a b → Contains s.active a → s.step ≡ Some a
  pub to_decided : (a b : ℕ) → edge a b → Contains s.active b → s.step ≡ Some b
  pub from_begun : (a b : ℕ) → edge a b → a ≤ s.begun
  pub to_begun : (a b : ℕ) → edge a b → b ≤ s.begun
  pub here : (a b : ℕ) → edge a b → Contains s.order a → Contains s.order b → Joins s.arcs a b
  pub past : IsTopological edge s.past
  pub back : (a b : ℕ) → edge a b → Contains s.order a → Contains s.past b → ⊥

pub forward_less : (edge less : ℕ → ℕ → Type 0) (s : State) → ((a b : ℕ) → less a b → edge a b) → IsForward edge s
    → IsForward less s
forward_less edge less s up f = record {
  apart = λ a b e. f.apart a b (up a b e);
  from_decided = λ a b e. f.from_decided a b (up a b e);
  to_decided = λ a b e. f.to_decided a b (up a b e);
  from_begun = λ a b e. f.from_begun a b (up a b e);
  to_begun = λ a b e. f.to_begun a b (up a b e);
  here = λ a b e. f.here a b (up a b e);
  past = λ i j d lt within e. f.past i j d lt within (up _ _ e);
  back = λ a b e. f.back a b (up a b e);
}

abbrev Either : (ℕ → ℕ → Type 0) → (ℕ → ℕ → Type 0) → ℕ → ℕ → Type 0
Either p q a b = p a b ⊎ q a b

pub forward_either : (p q : ℕ → ℕ → Type 0) (s : State) → IsForward p s → IsForward q s → IsForward (Either p q) s
forward_either p q s f g = record {
  apart = λ a b e. elim e [ inl x ↦ f.apart a b x | inr y ↦ g.apart a b y ];
  from_decided = λ a b e. elim e [ inl x ↦ f.from_decided a b x | inr y ↦ g.from_decided a b y ];
  to_decided = λ a b e. elim e [ inl x ↦ f.to_decided a b x | inr y ↦ g.to_decided a b y ];
  from_begun = λ a b e. elim e [ inl x ↦ f.from_begun a b x | inr y ↦ g.from_begun a b y ];
  to_begun = λ a b e. elim e [ inl x ↦ f.to_begun a b x | inr y ↦ g.to_begun a b y ];
  here = λ a b e. elim e [ inl x ↦ f.here a b x | inr y ↦ g.here a b y ];
  past = λ i j d lt within e. elim e [ inl x ↦ f.past i j d lt within x | inr y ↦ g.past i j d lt within y ];
  back = λ a b e. elim e [ inl x ↦ f.back a b x | inr y ↦ g.back a b y ];
}

pub forward_none : (edge : ℕ → ℕ → Type 0) (s : State) → ((a b : ℕ) → edge a b → ⊥) → IsForward edge s
forward_none edge s none = record {
  apart = λ a b e. absurd (none a b e);
  from_decided = λ a b e. absurd (none a b e);
  to_decided = λ a b e. absurd (none a b e);
  from_begun = λ a b e. absurd (none a b e);
  to_begun = λ a b e. absurd (none a b e);
  here = λ a b e. absurd (none a b e);
  past = λ i j d lt within e. none _ _ e;
  back = λ a b e. absurd (none a b e);
}

abbrev NotBack : (ℕ → ℕ → Type 0) → ℕ → ℕ → Type 0
NotBack edge a b = edge b a → ⊥

pub serial_topological : (edge : ℕ → ℕ → Type 0) (s : State) → IsGoodState s → IsForward edge s
    → IsTopological edge (serial s)
serial_topological edge s g f =
    let here : IsTopological edge s.order = AllPairs-from_at (NotBack edge) s.order (λ p q a b lt at_a at_b e.
    AllPairs_at (NotBack (Joins s.arcs)) s.order p q a b g.sound.topological lt at_a at_b
    (f.here b a e (Contains-from_at s.order q b at_b) (Contains-from_at s.order p a at_a))) in
    AllPairs-append (NotBack edge) s.past s.order f.past here (λ a b ca cb e. f.back b a e cb ca)

-- ---- edges that were handed before, after one more call

same_forward : (edge : ℕ → ℕ → Type 0) (s t : State) → s.begun ≤ t.begun → t.past ≡ s.past → t.order ≡ s.order
    → t.arcs ≡ s.arcs → ((a : ℕ) → a ≤ s.begun → (Contains s.active a → s.step ≡ Some a) → Contains t.active a
    → t.step ≡ Some a) → IsForward edge s → IsForward edge t
same_forward edge s t begun past order arcs decided f = record {
  apart = f.apart;
  from_decided = λ a b e. decided a (f.from_begun a b e) (f.from_decided a b e);
  to_decided = λ a b e. decided b (f.to_begun a b e) (f.to_decided a b e);
  from_begun = λ a b e. let le = f.from_begun a b e in omega (arith, le, begun);
  to_begun = λ a b e. let le = f.to_begun a b e in omega (arith, le, begun);
  here = λ a b e ca cb. subst (λ xs. Joins xs a b) (sym arcs)
      (f.here a b e (subst (λ xs. Contains xs a) order ca) (subst (λ xs. Contains xs b) order cb));
  past = subst (IsTopological edge) (sym past) f.past;
  back = λ a b e ca cb. f.back a b e (subst (λ xs. Contains xs a) order ca) (subst (λ xs. Contains xs b) past cb);
}

begun_forward : (edge : ℕ → ℕ → Type 0) (s : State) → IsForward edge s → IsForward edge (with_begun s)
begun_forward edge s f =
    same_forward edge s (with_begun s) (omega arith) refl refl refl
    (λ a le was c. elim (Contains-append_cases s.active (suc s.begun ∷ []) a c) [
      | inl old ↦ was old
      | inr last ↦ elim (contains-cases (suc s.begun) [] a last) [
        | inl e ↦ absurd (omega (arith, e, le))
        | inr none ↦ absurd (contains-none a none)
      ]
    ]) f

finished_forward : (edge : ℕ → ℕ → Type 0) (s : State) (i : ℕ) → s.step ≡ Some i → IsForward edge s
    → IsForward edge (with_finished s i)
finished_forward edge s i open_i f = same_forward edge s (with_finished s i) (omega arith) refl refl refl (λ a le was c.
    let m = filter_member (λ t. not (t == i)) s.active a c in
    let same : a ≡ i = same_Some a i (sym (was m.0) ∙ open_i) in
    absurd (true≢false (sym m.1 ∙ ap not (eq-eqb a i same)))) f

withdrawn_forward : (edge : ℕ → ℕ → Type 0) (s : State) (i : ℕ) → IsForward edge s → IsForward edge (with_withdrawn s i)
withdrawn_forward edge s i f =
    same_forward edge s (with_withdrawn s i) (omega arith) refl refl refl
    (λ a le was c. was (filter_member (λ t. not (t == i)) s.active a c).0) f

noted_forward : (edge : ℕ → ℕ → Type 0) (s : State) (i site : ℕ) (items : List Name) → IsForward edge s
    → IsForward edge (with_install s i site items)
noted_forward edge s i site items f = same_forward edge s (with_install s i site items) (omega arith) refl refl refl
    (λ a le was c. was c) f

closed_forward : (edge : ℕ → ℕ → Type 0) (s : State) → IsGoodState s → s.active ≡ [] → IsForward edge s
    → IsForward edge (with_closed s)
closed_forward edge s g none f = record {
  apart = f.apart;
  from_decided = λ a b e c. absurd (contains-none a (subst (λ xs. Contains xs a) none c));
  to_decided = λ a b e c. absurd (contains-none b (subst (λ xs. Contains xs b) none c));
  from_begun = f.from_begun;
  to_begun = f.to_begun;
  here = λ a b e ca cb. absurd (contains-none a ca);
  past = serial_topological edge s g f;
  back = λ a b e ca cb. contains-none a ca;
}

-- while no step is open an active transaction is no end of an edge
idle_end : (s : State) (i a : ℕ) → s.step ≡ None → (Contains s.active a → s.step ≡ Some a) → Contains s.active a → ⊥
idle_end s i a idle was active = let f : None ≡ Some a = sym idle ∙ was active in absurd cc

committed_forward : (edge : ℕ → ℕ → Type 0) (old : State) (i : ℕ) (arcs : List Arc) (new : State) → old.step ≡ None
    → Contains old.active i → Commits old i arcs new → IsForward edge old → IsForward edge new
committed_forward edge old i arcs new idle active m f =
    let member : (a : ℕ) → (Contains old.active a → old.step ≡ Some a) → Contains m.places a → Contains old.order a =
    λ a was c. elim (placed_member m.placed.0 old.order i a (subst (λ p. Contains p a) m.placed.2 c)) [
      | inl e ↦ absurd (idle_end old i a idle was (subst (Contains old.active) (sym e) active))
      | inr old_one ↦ old_one
    ] in
    subst (IsForward edge) (sym m.after) (record {
      apart = f.apart;
      from_decided = λ a b e c. absurd (idle_end old i a idle (f.from_decided a b e) c);
      to_decided = λ a b e c. absurd (idle_end old i b idle (f.to_decided a b e) c);
      from_begun = f.from_begun;
      to_begun = f.to_begun;
      here = λ a b e ca cb. let j =
          f.here a b e (member a (f.from_decided a b e) ca) (member b (f.to_decided a b e) cb) in
          (j.0, Contains-append_left old.arcs arcs _ j.1);
      past = f.past;
      back = λ a b e ca cb. f.back a b e (member a (f.from_decided a b e) ca) cb;
    })

-- ---- the edges of a decision

-- the handles are the same, or not
handle_cases : (g h : Handle) → (g ≡ h) ⊎ (g ≡ h → ⊥)
handle_cases g h =
    elim (cases_eq g.index h.index) [
      | inl index ↦ elim (cases_eq g.generation h.generation) [
        | inl generation ↦ inl (same_handle g h index generation)
        | inr other ↦ inr (λ e. other (ap (λ (x : Handle). x.generation) e))
      ]
      | inr other ↦ inr (λ e. other (ap (λ (x : Handle). x.index) e))
    ]

known_cases : (s : State) (h : Handle) → IsKnown s h ⊎ (IsKnown s h → ⊥)
known_cases s h =
    elim (cases_eq h.generation s.generation) [
      | inl here ↦ elim (contains_cases s.order (tx_under s h)) [
        | inl member ↦ inl (inl (here, member))
        | inr none ↦ inr (λ k. elim k [ inl m ↦ none m.1 | inr older ↦ omega (arith, here, older) ])
      ]
      | inr other ↦ elim (cases_lt h.generation s.generation) [
        | inl older ↦ inl (inr older)
        | inr newer ↦ inr (λ k. elim k [ inl m ↦ other m.0 | inr older ↦ omega (arith, newer, older) ])
      ]
    ]

abbrev IsOut : State → Handle → Edge → Type 0
IsOut s h e = (e.from ≡ h) × (e.to ≢ h) × IsKnown s e.to

abbrev IsIn : State → Handle → Edge → Type 0
IsIn s h e = (e.to ≡ h) × (e.from ≢ h) × IsKnown s e.from

out_cases : (s : State) (h : Handle) (e : Edge) → IsOut s h e ⊎ (IsOut s h e → ⊥)
out_cases s h e =
    elim (handle_cases e.from h) [
      | inr far ↦ inr (λ p. far p.0)
      | inl from ↦ elim (handle_cases e.to h) [
        | inl to ↦ inr (λ p. p.1 to)
        | inr apart ↦ elim (known_cases s e.to) [
          | inl known ↦ inl (from, apart, known)
          | inr unknown ↦ inr (λ p. unknown p.2)
        ]
      ]
    ]

in_cases : (s : State) (h : Handle) (e : Edge) → IsIn s h e ⊎ (IsIn s h e → ⊥)
in_cases s h e =
    elim (handle_cases e.to h) [
      | inr far ↦ inr (λ p. far p.0)
      | inl to ↦ elim (handle_cases e.from h) [
        | inl from ↦ inr (λ p. p.1 from)
        | inr apart ↦ elim (known_cases s e.from) [
          | inl known ↦ inl (to, apart, known)
          | inr unknown ↦ inr (λ p. unknown p.2)
        ]
      ]
    ]

fits_stable : (s : State) (h : Handle) (e : Edge) → ((Fits s h e → ⊥) → ⊥) → Fits s h e
fits_stable s h e twice =
    elim (out_cases s h e) [
      | inl out ↦ inl out
      | inr no_out ↦ elim (in_cases s h e) [
        | inl into ↦ inr into
        | inr no_in ↦ absurd (twice (λ f. elim f [ inl p ↦ no_out p | inr p ↦ no_in p ]))
      ]
    ]

-- an edge of a decision of i: from i to a committed transaction of the window, or to i from such a one or from an
-- older window
abbrev IsNew : State → List Arc → ℕ → ℕ → ℕ → Type 0
IsNew s arcs i a b = ((a ≡ i) × Contains s.order b × Joins arcs a b)
    ⊎ ((b ≡ i) × ((Contains s.order a × Joins arcs a b) ⊎ (a ≤ s.before)))

arc_joins : (s : State) (edges : List Edge) (e : Edge) (a b : ℕ) → Contains edges e → e.from.generation ≡ s.generation
    → a ≡ tx_under s e.from → b ≡ tx_under s e.to → Joins (arcs_of s edges) a b
arc_joins s edges e a b c here is_a is_b =
    let kept = member_filter (λ (d : Edge). d.from.generation == s.generation) edges e c
    (eq-eqb e.from.generation s.generation here) in
    let arc = contains_map (λ (d : Edge). record { from = tx_under s d.from; to = tx_under s d.to; label = d.label })
    (filter (λ (d : Edge). d.from.generation == s.generation) edges) e kept in (
      e.label,
      subst (λ x. Contains (arcs_of s edges) (record { from = x; to = b; label = e.label })) (sym is_a)
          (subst (λ y. Contains (arcs_of s edges) (record { from = tx_under s e.from; to = y; label = e.label }))
          (sym is_b) arc),
    )

-- who begins under a handle of this window
name_here : (seen : List Call) (s : State) (t : ℕ) (h : Handle) → IsNamed seen s → Contains seen (call.Begin t h)
    → IsHere s h → t ≡ tx_under s h
name_here seen s t h n c here =
    elim (n.window t h c) [ inl is ↦ is.1 | inr older ↦ absurd (omega (arith, here, older.0)) ]

name_older : (seen : List Call) (s : State) (t : ℕ) (h : Handle) → IsNamed seen s → Contains seen (call.Begin t h)
    → IsOlder s h → t ≤ s.before
name_older seen s t h n c older = elim (n.window t h c) [
  | inl is ↦ absurd (omega (arith, is.0, older))
  | inr was ↦ was.1
]

new_edge : (seen : List Call) (s : State) (h : Handle) (edges : List Edge) (e : Edge) (a b : ℕ) → IsNamed seen s
    → IsAllowed s (decide h edges) → IsActive s h → Contains edges e → Contains seen (call.Begin a e.from)
    → Contains seen (call.Begin b e.to) → IsNew s (arcs_of s edges) (tx_under s h) a b
new_edge seen s h edges e a b n allowed active c from to =
    let fits : Fits s h e = fits_stable s h e (λ unfit. allowed fault.Unknown (inr (c.0, e, c.1, c.2, unfit))) in
    elim fits [
      | inl out ↦
          let here : IsHere s e.from = ap (λ (x : Handle). x.generation) out.0 ∙ active.0 in
          let is_a : a ≡ tx_under s e.from = name_here seen s a e.from n from here in
          elim out.2 [
            | inl known ↦
                let is_b : b ≡ tx_under s e.to = name_here seen s b e.to n to known.0 in
                inl (
                  is_a ∙ ap (tx_under s) out.0,
                  subst (Contains s.order) (sym is_b) known.1,
                  arc_joins s edges e a b c here is_a is_b,
                )
            | inr older ↦ absurd (allowed fault.Stale (c.0, e, c.1, c.2, (out.0, older)))
          ]
      | inr into ↦
          let to_here : IsHere s e.to = ap (λ (x : Handle). x.generation) into.0 ∙ active.0 in
          let is_b : b ≡ tx_under s e.to = name_here seen s b e.to n to to_here in
          let b_is : b ≡ tx_under s h = is_b ∙ ap (tx_under s) into.0 in
          elim into.2 [
            | inl known ↦
                let is_a : a ≡ tx_under s e.from = name_here seen s a e.from n from known.0 in
                inr (
                  b_is,
                  inl (subst (Contains s.order) (sym is_a) known.1, arc_joins s edges e a b c known.0 is_a is_b),
                )
            | inr older ↦ inr (b_is, inr (name_older seen s a e.from n from older))
          ]
    ]

-- the edges of a decision lead forward after it
new_forward : (edge : ℕ → ℕ → Type 0) (s t : State) (arcs : List Arc) (i : ℕ) → IsGoodState s → s.step ≡ None
    → Contains s.active i → ((a b : ℕ) → edge a b → IsNew s arcs i a b)
    → t.active ≡ s.active → t.step ≡ Some i → t.begun ≡ s.begun → t.past ≡ s.past
    → ((a : ℕ) → Contains t.order a → (a ≡ i) ⊎ Contains s.order a)
    → ((a b : ℕ) → Joins arcs a b → Contains t.order i → Joins t.arcs a b)
    → IsForward edge t
new_forward edge s t arcs i g idle active new same_active step begun past member joins =
    let w = g.sound.active_here i active in
    let out : Contains s.order i → ⊥ = uncommitted s i g.sound idle active in
    let not_active : (a : ℕ) → Contains s.order a → Contains s.active a
    → ⊥ = λ a o c. (let f : None ≡ Some a = sym idle ∙ g.sound.committed_open a c o in absurd cc) in
    let decided : (a : ℕ) → (a ≡ i) ⊎ (Contains s.order a ⊎ (a ≤ s.before)) → Contains t.active a → t.step ≡ Some a =
    λ a is c. elim is [
      | inl e ↦ step ∙ ap Some (sym e)
      | inr other ↦ elim other [
        | inl o ↦ absurd (not_active a o (subst (λ xs. Contains xs a) same_active c))
        | inr le ↦ (let v = g.sound.active_here a (subst (λ xs. Contains xs a) same_active c) in
            absurd (omega (arith, v.0, le)))
      ]
    ] in
    let from_is : (a b : ℕ) → edge a b → (a ≡ i) ⊎ (Contains s.order a ⊎ (a ≤ s.before)) =
    λ a b e. elim (new a b e) [
      | inl p ↦ inl p.0
      | inr p ↦ elim p.1 [ inl q ↦ inr (inl q.0) | inr q ↦ inr (inr q) ]
    ] in
    let to_is : (a b : ℕ) → edge a b → (b ≡ i) ⊎ (Contains s.order b ⊎ (b ≤ s.before)) =
    λ a b e. elim (new a b e) [ inl p ↦ inr (inl p.1) | inr p ↦ inl p.0 ] in
    let small : (a : ℕ) → (a ≡ i) ⊎ (Contains s.order a ⊎ (a ≤ s.before)) → a ≤ t.begun = λ a is. elim is [
      | inl e ↦ omega (arith, e, w.1, begun)
      | inr other ↦ elim other [
        | inl o ↦ (let v = g.sound.order_here a o in omega (arith, v.1, begun))
        | inr le ↦ (let v = g.sound.window in omega (arith, v, le, begun))
      ]
    ] in
    let late : (a : ℕ) → Contains t.order a → a ≤ s.before → ⊥ = λ a c le. elim (member a c) [
      | inl e ↦ omega (arith, e, w.0, le)
      | inr o ↦ (let v = g.sound.order_here a o in omega (arith, v.0, le))
    ] in
    let early : (a : ℕ) → Contains t.past a
    → a ≤ s.before = λ a c. g.sound.past_before a (subst (λ xs. Contains xs a) past c) in
    record {
      apart = λ a b e same. elim (new a b e) [
        | inl p ↦ out (subst (Contains s.order) (sym same ∙ p.0) p.1)
        | inr p ↦ elim p.1 [
          | inl q ↦ out (subst (Contains s.order) (same ∙ p.0) q.0)
          | inr le ↦ omega (arith, le, w.0, same, p.0)
        ]
      ];
      from_decided = λ a b e c. decided a (from_is a b e) c;
      to_decided = λ a b e c. decided b (to_is a b e) c;
      from_begun = λ a b e. small a (from_is a b e);
      to_begun = λ a b e. small b (to_is a b e);
      here = λ a b e ca cb. elim (new a b e) [
        | inl p ↦ joins a b p.2 (subst (Contains t.order) p.0 ca)
        | inr p ↦ elim p.1 [
          | inl q ↦ joins a b q.1 (subst (Contains t.order) p.0 cb)
          | inr le ↦ absurd (late a ca le)
        ]
      ];
      past = AllPairs-from_at (NotBack edge) t.past (λ p q a b lt at_a at_b e. elim (new b a e) [
        | inl m ↦ (let le = early b (Contains-from_at t.past q b at_b) in omega (arith, le, w.0, m.0))
        | inr m ↦ (let le = early a (Contains-from_at t.past p a at_a) in omega (arith, le, w.0, m.0))
      ]);
      back = λ a b e ca cb.
          let le = early b cb in elim (new a b e) [
            | inl p ↦ (let v = g.sound.order_here b p.1 in omega (arith, v.0, le))
            | inr p ↦ omega (arith, le, w.0, p.0)
          ];
    }

-- ---- every history

abbrev Pairs : List Call → Call → ℕ → ℕ → Type 0
Pairs seen c a b = HandsAt seen c a b

serves_forward : (edge : ℕ → ℕ → Type 0) (seen : List Call) (old : State) (c : Call) (new : State) → IsGoodState old
    → IsNamed seen old → Serves old c new → IsForward edge old → IsForward (Either edge (Pairs seen c)) new
serves_forward edge seen old (call.Begin tx h) new g n r f =
    forward_either edge (Pairs seen (call.Begin tx h)) new
    (subst (IsForward edge) (sym r.1.2) (begun_forward edge old f))
    (forward_none (Pairs seen (call.Begin tx h)) new (λ a b e. e))
serves_forward edge seen old (call.Decide h edges (Committed number)) new g n r f =
    let c = call.Decide h edges (Committed number) in
    let idle = no_step old (λ t. r.0 (fault.StepOpen t)) in
    let active = active_under old h (λ x. r.0 fault.Unknown (inl x)) in
    let i = tx_under old h in
    let m = r.1.1 in
    let a = m.after in
    let is : (x y : ℕ) → Pairs seen c x y → IsNew old (arcs_of old edges) i x y =
    λ x y e. new_edge seen old h edges e.0 x y n r.0 active e.1 e.2 e.3 in
    let order : new.order ≡ m.places = ap (λ (s : State). s.order) a in
    let arcs : new.arcs ≡ old.arcs ++ arcs_of old edges = ap (λ (s : State). s.arcs) a in
    forward_either edge (Pairs seen c) new (committed_forward edge old i (arcs_of old edges) new idle active.1 m f)
    (new_forward (Pairs seen c) old new (arcs_of old edges) i g idle active.1 is (ap (λ (s : State). s.active) a)
    (ap (λ (s : State). s.step) a) (ap (λ (s : State). s.begun) a) (ap (λ (s : State). s.past) a)
    (λ x k. placed_member m.placed.0 old.order i x (subst (λ p. Contains p x) (order ∙ m.placed.2) k))
    (λ x y j k. (
      j.0,
      subst (λ xs. Contains xs (record { from = x; to = y; label = j.0 })) (sym arcs)
          (Contains-append_right old.arcs (arcs_of old edges) _ j.1),
    )))
serves_forward edge seen old (call.Decide h edges (Refused number walk)) new g n r f =
    let c = call.Decide h edges (Refused number walk) in
    let idle = no_step old (λ t. r.0 (fault.StepOpen t)) in
    let active = active_under old h (λ x. r.0 fault.Unknown (inl x)) in
    let i = tx_under old h in
    let a = r.1.1.after in
    let is : (x y : ℕ) → Pairs seen c x y → IsNew old (arcs_of old edges) i x y =
    λ x y e. new_edge seen old h edges e.0 x y n r.0 active e.1 e.2 e.3 in
    let order : new.order ≡ old.order = ap (λ (s : State). s.order) a in
    let vacuous : (x : ℕ) → x ≤ old.begun → (Contains old.active x → old.step ≡ Some x) → Contains new.active x
    → new.step ≡ Some x =
    λ x le was k. absurd (idle_end old i x idle was (subst (λ (s : State). Contains s.active x) a k)) in
    let begun : new.begun ≡ old.begun = ap (λ (s : State). s.begun) a in
    forward_either edge (Pairs seen c) new
    (same_forward edge old new (omega (arith, begun)) (ap (λ (s : State). s.past) a) order
    (ap (λ (s : State). s.arcs) a) vacuous f)
    (new_forward (Pairs seen c) old new (arcs_of old edges) i g idle active.1 is (ap (λ (s : State). s.active) a)
    (ap (λ (s : State). s.step) a) begun (ap (λ (s : State). s.past) a)
    (λ x k. inr (subst (λ p. Contains p x) order k))
    (λ x y j k. absurd (uncommitted old i g.sound idle active.1 (subst (λ p. Contains p i) order k))))
serves_forward edge seen old (call.Finish tx) new g n r f =
    forward_either edge (Pairs seen (call.Finish tx)) new
    (subst (IsForward edge) (sym r.1) (finished_forward edge old tx (open_step old tx (r.0 fault.Unknown)) f))
    (forward_none (Pairs seen (call.Finish tx)) new (λ a b e. e))
serves_forward edge seen old (call.Withdraw h number) new g n r f =
    forward_either edge (Pairs seen (call.Withdraw h number)) new
    (subst (IsForward edge) (sym r.1.1) (withdrawn_forward edge old (tx_under old h) f))
    (forward_none (Pairs seen (call.Withdraw h number)) new (λ a b e. e))
serves_forward edge seen old (call.Close ranks) new g n r f =
    forward_either edge (Pairs seen (call.Close ranks)) new
    (subst (IsForward edge) (sym r.1.1) (closed_forward edge old g (no_active old (λ k. r.0 (fault.ActiveLeft k))) f))
    (forward_none (Pairs seen (call.Close ranks)) new (λ a b e. e))
serves_forward edge seen old (call.Installed tx site items) new g n r f =
    forward_either edge (Pairs seen (call.Installed tx site items)) new
    (subst (IsForward edge) (sym r.1) (noted_forward edge old tx site items f))
    (forward_none (Pairs seen (call.Installed tx site items)) new (λ a b e. e))

runs_forward : (edge : ℕ → ℕ → Type 0) (seen cs : List Call) (old new : State) → IsGoodState old → IsNamed seen old
    → IsForward edge old → RunsFrom old cs new → IsForward (Either edge (HandsFrom seen cs)) new
runs_forward edge seen [] old new g n f r =
    subst (IsForward (Either edge (HandsFrom seen []))) (sym r)
    (forward_either edge (HandsFrom seen []) old f (forward_none (HandsFrom seen []) old (λ a b e. e)))
runs_forward edge seen (c ∷ cs) old new g n f r =
    let mid = r.0 in
    let later = runs_forward (Either edge (Pairs seen c)) (seen ++ c ∷ []) cs mid new (serves-good old c mid g r.1)
    (serves_named seen old c mid g r.1 n) (serves_forward edge seen old c mid g n r.1 f) r.2 in
    forward_less (Either (Either edge (Pairs seen c)) (HandsFrom (seen ++ c ∷ []) cs))
    (Either edge (HandsFrom seen (c ∷ cs))) new (λ a b e. elim e [
      | inl x ↦ inl (inl x)
      | inr y ↦ elim y [ inl z ↦ inl (inr z) | inr z ↦ inr z ]
    ]) later

None_at : ℕ → ℕ → Type 0
None_at a b = ⊥

pub hands_forward : (history : List Call) (s : State) → Replays history s → IsForward (Hands history) s
unfolding None_at
hands_forward history s r =
    let named : IsNamed [] opening = record {
      window = λ t h c. absurd (contains-none (call.Begin t h) c);
      begun =
          λ t h c. absurd (contains-none (call.Begin t h) c);
    } in
    let start = forward_none None_at opening (λ a b e. e) in
    forward_less (Either None_at (HandsFrom [] history)) (Hands history) s (λ a b e. inr e)
    (runs_forward None_at [] history opening s (replays-good [] opening refl) named start r)

pub hands_topological : (history : List Call) (s : State) → Replays history s → IsTopological (Hands history) (serial s)
hands_topological history s r =
    serial_topological (Hands history) s (replays-good history s r) (hands_forward history s r)

pub hands_acyclic : (history : List Call) (s : State) → Replays history s → IsAcyclic (HandsCommitted history s)
hands_acyclic history s r =
    let top = hands_topological history s r in
    topological_is_acyclic (HandsCommitted history s) (serial s) (λ i j d lt within e. top i j d lt within e.0)
    (record { from = λ a b e. e.1; to = λ a b e. e.2; apart = λ a b e. (hands_forward history s r).apart a b e.0 })
