-- The edges that are handed at one more site: each is one of the transaction, and over them lead all of its edges
-- there.
use Rattle.std.proofs.Common.{◌≡◌, ◌<◌, ◌≤◌, ◌+◌, ℕ, suc, List, [], ◌∷◌, ◌++◌, length, map, refl, sym, ◌∙◌, arith, ◌⊎◌, inl, inr, Contains, All, Some, None, subst, ap}
use Rattle.std.specs.Prelude.{slice_get, filter, ◌==◌, ◌≢◌, if◌then◌else◌}
use Rattle.std.specs.List.{filter_map}
use Rattle.std.proofs.lemmas.Bool.{cases_eq, cases_order, eq-eqb, ne_eqb, eqb-true}
use Rattle.std.proofs.lemmas.List.{append_assoc, append-nil}
use Rattle.std.proofs.lemmas.List.Elements.{Contains-append_cases, Contains-append_left, Contains-append_right}
use Rattle.std.proofs.lemmas.Option.{same_Some}
use Rattle.sgt_names.specs.Name.{Name}
use Rattle.sgt_names.specs.Entry.{tx_of, IsEnd}
use Rattle.sgt_names.specs.Log.{Conflicts}
use Rattle.sgt_names.specs.Draft.{at_site, writing_in}
use Rattle.sgt_names.specs.declared.entry.Change.{Change}
use Rattle.sgt_names.specs.declared.entry.Entry.{Entry}
use Rattle.sgt_names.specs.declared.entry.Entry.TheVariants as entry
use Rattle.sgt_names.specs.declared.entry.Kind.{Kind}
use Rattle.sgt_names.specs.declared.entry.Label.{Label}
use Rattle.sgt_names.proofs.Places.{AllPairs_at, Contains_at, Contains-from_at}
use Rattle.sgt_names.proofs.Lists.{All_in, map_at}
use Rattle.sgt_arena.specs.declared.handle.Handle.{Handle}
use Rattle.sgt_site.specs.declared.cell.Install.{Install}
use Rattle.sgt_site.specs.State.{SiteState, IsSite, handle_of, committed_in, change_entry}
use Rattle.sgt_site.specs.Refused.{MayPledge}
use Rattle.sgt_site.proofs.Appends.{chosen_from, count_before}
use Rattle.sgt_order.specs.Graph.{Reaches}
use Rattle.sgt_edges.specs.declared.edge.Edge.{Edge}
use Rattle.sgt_edges.specs.Edges.{IsEdge, IsOldEdge, IsGiven, Walks, given, old, on, StandsForAll, AreApart, IsActive, IsConflict}
use Rattle.sgt_edges.specs.Edges as edges
use Rattle.sgt_edges.proofs.Logged.{edge_is, conflict_is}
use Rattle.sgt_edges.proofs.Once.{no-edges}
use Rattle.sgt_certifier.specs.Certifier.{State, Arc, Joins, Ruling, committed, ruled}
use Rattle.sgt_certifier.specs.History.{tx_under, arcs_of, IsKnown, Fits}
use Rattle.sgt_certifier.specs.Sound.{IsRuled}
use Rattle.sgt_certifier.proofs.Members.{AllPairs-append, cons_here, filter_member, member_filter, place_cases}
use Rattle.sgt_core_machine.specs.declared.machine.Place.{Place}
use Rattle.sgt_core_machine.specs.declared.machine.Running.{Running}
use Rattle.sgt_core_model.specs.Core.{CoreState, IsEdgeOf, as_changes, followed}
use Rattle.sgt_core_model.specs.Step.{gathered_in}
use Rattle.sgt_core_machine.specs.Machine.{Parts, Carries, IsHandleOf, IsRunning, IsPlace, AreGathered}
use Rattle.sgt_core_model.proofs.Kept.{AreOlderFirst, SuitsRuling, IsKept}
use Rattle.sgt_core_model.proofs.Entries.{of_change, change_tx, read_no_end}
use Rattle.sgt_core_model.proofs.Conflicting.{in_longer}
use Rattle.sgt_core_model.proofs.Reached.{reaches_alike, reaches-on}
use Rattle.sgt_core_model.proofs.Ordered.{changes_tx}
use Rattle.sgt_names.proofs.Elements.{contains-cases, contains-later, contains-none, get-mapped}

-- ---- arcs of edges

abbrev arc_between : ℕ → ℕ → Label → Arc
arc_between a b label = record { from = a; to = b; label = label }

abbrev arc_under : State → Edge → Arc
arc_under s e = record { from = tx_under s e.from; to = tx_under s e.to; label = e.label }

pub arc_from : (s : State) (es : List Edge) (arc : Arc) → Contains (arcs_of s es) arc
    → (e : Edge) × Contains es e × (e.from.generation ≡ s.generation) × (arc_under s e ≡ arc)
arc_from s es arc m =
    let at = Contains_at (arcs_of s es) arc m in
    let from = map_at (arc_under s) (filter (λ (e : Edge). e.from.generation == s.generation) es) at.0 arc at.1 in
    let kept = filter_member (λ (e : Edge). e.from.generation == s.generation) es from.0
    (Contains-from_at _ at.0 from.0 from.1) in
    (from.0, kept.0, eqb-true from.0.from.generation s.generation kept.1, from.2)

pub arc_of_edge : (s : State) (es : List Edge) (e : Edge) → Contains es e → e.from.generation ≡ s.generation
    → Contains (arcs_of s es) (arc_under s e)
arc_of_edge s es e m gen =
    let in_kept =
    member_filter (λ (e : Edge). e.from.generation == s.generation) es e m
    (eq-eqb e.from.generation s.generation gen) in
    let at = Contains_at (filter (λ (e : Edge). e.from.generation == s.generation) es) e in_kept in
    Contains-from_at (arcs_of s es) at.0 (arc_under s e) (get-mapped (arc_under s) _ at.0 e at.1)

-- ---- who has a handle

pub handle_member : (is : List Install) (tx : ℕ) (h : Handle) → handle_of is tx ≡ Some h
    → Contains is (record { tx = tx; handle = h })
handle_member [] tx h e = absurd cc
handle_member (i ∷ is) tx h e = elim (cases_eq i.tx tx) [
  | inl same ↦
      let hit : Some i.handle ≡ Some h =
      sym (ap (λ b. if b then Some i.handle else handle_of is tx) (eq-eqb i.tx tx same)) ∙ e in
      subst (Contains (i ∷ is)) (one i.tx tx i.handle h same (same_Some i.handle h hit)) (cons_here i is)
  | inr other ↦
      let rest : handle_of is tx ≡ Some h =
      sym (ap (λ b. if b then Some i.handle else handle_of is tx) (ne_eqb i.tx tx other)) ∙ e in
      contains-later i is _ (handle_member is tx h rest)
]
  where
    one : (a b : ℕ) (g h : Handle) → a ≡ b → g ≡ h
        → ◌≡◌ {A = Install} (record { tx = a; handle = g }) (record { tx = b; handle = h })
    one a b g h p q = ap (λ t. record { tx = t; handle = g }) p ∙ ap (λ k. record { tx = b; handle = k }) q

member_handle : (is : List Install) (tx : ℕ) → Contains (map (λ (i : Install). i.tx) is) tx
    → (h : Handle) × (handle_of is tx ≡ Some h)
member_handle [] tx m = absurd (contains-none tx m)
member_handle (i ∷ is) tx m = elim (cases_eq i.tx tx) [
  | inl same ↦ (i.handle, ap (λ b. if b then Some i.handle else handle_of is tx) (eq-eqb i.tx tx same))
  | inr other ↦ elim (contains-cases i.tx (map (λ (j : Install). j.tx) is) tx m) [
    | inl is_it ↦ absurd (other is_it)
    | inr later ↦
        let r = member_handle is tx later in
        (r.0, ap (λ b. if b then Some i.handle else handle_of is tx) (ne_eqb i.tx tx other) ∙ r.1)
  ]
]

commit_handle : (s : SiteState) → IsSite s → (tx : ℕ) → Contains s.entries (entry.Commit tx)
    → (h : Handle) × (handle_of s.installed tx ≡ Some h)
commit_handle s site tx has =
    let at = Contains_at s.entries (entry.Commit tx) has in
    let there = chosen_from committed_in s.entries at.0 (entry.Commit tx) tx at.1 refl in
    let in_commits : Contains (filter_map committed_in s.entries) tx =
    Contains-from_at _ (count_before committed_in s.entries at.0) tx there in
    member_handle s.installed tx (subst (λ ts. Contains ts tx) (sym site.given) in_commits)

-- ---- who is committed and stands in a log has a commit there

abbrev RuledApart : Ruling → Ruling → Type 0
RuledApart q r = ruled q ≢ ruled r

same_ruling : (s : State) → IsRuled s → (m n : ℕ) (q r : Ruling) → slice_get s.rulings m ≡ Some q
    → slice_get s.rulings n ≡ Some r → ruled q ≡ ruled r → q ≡ r
same_ruling s h m n q r at_m at_n same = elim (cases_order m n) [
  | inl is ↦ same_Some q r (sym at_m ∙ (ap (slice_get s.rulings) is ∙ at_n))
  | inr (inl lt) ↦ absurd (AllPairs_at RuledApart s.rulings m n q r h.once lt at_m at_n same)
  | inr (inr gt) ↦ absurd (AllPairs_at RuledApart s.rulings n m r q h.once gt at_n at_m (sym same))
]

commit_is : (f : Entry) (i : ℕ) → IsEnd f → SuitsRuling f (committed i) → f ≡ entry.Commit (tx_of f)
commit_is (entry.Commit tx) i end suits = refl
commit_is (entry.Refuse tx) i end suits = absurd suits
commit_is (entry.Withdraw tx) i end suits = absurd suits
commit_is (entry.Read tx x v) i end suits = absurd end
commit_is (entry.Write tx x v) i end suits = absurd end
commit_is (entry.Add tx x v) i end suits = absurd end
commit_is (entry.Want tx x v) i end suits = absurd end
commit_is (entry.WantAdd tx x v) i end suits = absurd end

-- ---- older windows stand first

older_first : (before : ℕ) (es : List Entry) → AreOlderFirst before es → (kind : Kind) (x : Name) (a b : ℕ)
    → Conflicts es kind x a b → before < a → before < b
older_first before es w kind x a b k late =
    let first : slice_get (w.older ++ w.newer) k.p ≡ Some k.e = ap (λ fs. slice_get fs k.p) (sym w.parts) ∙ k.first in
    let second : slice_get (w.older ++ w.newer) k.q ≡ Some k.f = ap (λ fs. slice_get fs k.q) (sym w.parts) ∙ k.second in
    elim (place_cases w.older w.newer k.p k.e first) [
      | inl early ↦
          let le = w.old k.e (Contains-from_at w.older k.p k.e early.1) in
          let is = k.from in
          absurd (omega (arith, le, is, late))
      | inr after ↦ elim (place_cases w.older w.newer k.q k.f second) [
        | inl early ↦ let lt = k.before in absurd (omega (arith, lt, early.0, after.1))
        | inr later ↦ let lt = w.new k.f (Contains-from_at w.newer later.0 k.f later.2) in let is = k.to in
            omega (arith, lt, is)
      ]
    ]

followed_older : (before tx : ℕ) (es : List Entry) (cs : List (Name × Change)) → before < tx → AreOlderFirst before es
    → AreOlderFirst before (es ++ as_changes tx cs)
followed_older before tx es cs late w = record {
  older = w.older;
  newer = w.newer ++ as_changes tx cs;
  parts = ap (λ fs. fs ++ as_changes tx cs) w.parts ∙ append_assoc w.older w.newer (as_changes tx cs);
  old = w.old;
  new = λ e m. elim (Contains-append_cases w.newer (as_changes tx cs) e m) [
    | inl entry_of ↦ w.new e entry_of
    | inr change_of ↦ let is = changes_tx tx cs e change_of in omega (arith, late, is)
  ];
}

-- ---- one site

module _ (m : Parts) (c : CoreState) (k : IsKept c) (carries : Carries m.certifier c.certifier)
    (same_before : c.certifier.before ≡ m.before)
    (undecided : c.certifier.step ≡ None) (tx slot : ℕ) (number : tx ≡ suc (m.before + slot)) (r : Running)
    (own : IsRunning c m.before slot r)
    (t : ℕ) (p : Place) (place : IsPlace m c t p) (site : IsSite p.site) (may : MayPledge p.site tx r.draft.touched)
    (more : List Edge) (gave : All (IsGiven p.site r.draft.touched r.handle) more)
    (stand : StandsForAll p.site r.draft.touched r.handle more) (differ : AreApart more)
    (fresh : Contains (gathered_in c.step) t → ⊥) where
  abbrev s : State
  s = c.certifier

  abbrev given_arcs : List Arc
  given_arcs = m.certifier.arcs

  abbrev me : Handle
  me = r.handle

  active : IsActive p.site tx r.draft.touched
  active = record { active = may.active; reads = may.same }

  me_index : me.index ≡ slot
  me_index = ap (λ (h : Handle). h.index) own.handle

  me_here : me.generation ≡ s.generation
  me_here = ap (λ (h : Handle). h.generation) own.handle

  me_tx : tx_under s me ≡ tx
  me_tx = let index = me_index in omega arith

  late : s.before < tx
  late = omega arith

  logs : followed c tx t ≡ edges.followed p.site tx r.draft.touched
  logs =
      ap (λ es. es ++ as_changes tx (c.changes tx t)) place.entries
      ∙ ap (λ cs. p.site.entries ++ as_changes tx cs)
      (ap (λ i. c.changes i t) number
      ∙ (own.changes t ∙ ap (λ u. writing_in (at_site u r.draft.touched)) (sym place.number)))

  windows : AreOlderFirst s.before (edges.followed p.site tx r.draft.touched)
  windows =
      subst (AreOlderFirst s.before) logs (followed_older s.before tx (c.entries t) (c.changes tx t) late
      (k.sound.ordered.windows t))

  known : (o : ℕ) (h : Handle) → handle_of p.site.installed o ≡ Some h → IsHandleOf s (record { tx = o; handle = h })
  known o h is = place.handles (record { tx = o; handle = h }) (handle_member p.site.installed o h is)

  in_order : (o : ℕ) → Contains s.order o → s.before < o
  in_order o member = (k.sound.ordered.certifier.order_here o member).0

  conflict_of : (e : Edge) → Contains more e
      → IsConflict p.site tx r.draft.touched me e.label.item e.from e.to e.label.kind
  conflict_of e member = edge_is p.site tx r.draft.touched me site active e.label.item e.from e.to e.label.kind
      (All_in (IsGiven p.site r.draft.touched me) more e gave member).1

  label_site : (e : Edge) → Contains more e → e.label.site ≡ t
  label_site e member = (All_in (IsGiven p.site r.draft.touched me) more e gave member).0 ∙ place.number

  -- who has a handle here is known to the certifier
  known_other : (o : ℕ) (h : Handle) → handle_of p.site.installed o ≡ Some h → IsKnown s h
  known_other o h is = elim (known o h is) [
    | inl here ↦ inl (here.0, subst (Contains s.order) here.1 here.2)
    | inr older ↦ inr older.0
  ]

  fits : (e : Edge) → Contains more e → Fits s me e
  fits e member =
      let is = conflict_of e member in
      elim is.which [
        | inl to_me ↦ inr (
          to_me.1,
          λ from. is.apart (from ∙ sym to_me.1),
          subst (IsKnown s) (sym to_me.0) (known_other is.other is.handle is.given),
        )
        | inr from_me ↦ inl (
          from_me.0,
          λ to. is.apart (from_me.0 ∙ sym to),
          subst (IsKnown s) (sym from_me.1) (known_other is.other is.handle is.given),
        )
      ]

  -- none leads back to an older window
  here_after : (o : ℕ) (h : Handle) → handle_of p.site.installed o ≡ Some h → s.before < o
      → (h.generation ≡ s.generation) × (o ≡ tx_under s h) × Contains s.order o
  here_after o h is lt = elim (known o h is) [
    | inl here ↦ (here.0, here.1, here.2)
    | inr older ↦ absurd (omega (arith, older.1, lt))
  ]

  forward_of : (e : Edge) → Contains more e → e.from ≡ me → e.to.generation ≡ s.generation
  forward_of e member from =
      let is = conflict_of e member in
      elim is.which [
        | inl to_me ↦ ap (λ (h : Handle). h.generation) to_me.1 ∙ me_here
        | inr from_me ↦
            let lt = older_first s.before _ windows e.label.kind e.label.item tx is.other from_me.2 late in
            ap (λ (h : Handle). h.generation) from_me.1 ∙ (here_after is.other is.handle is.given lt).0
      ]

  -- the edge is one of the transaction
  own_edge : (e : Edge) → Contains more e → e.from.generation ≡ s.generation → IsEdgeOf c tx (arc_under s e)
  own_edge e member gen =
      let is = conflict_of e member in
      let at = label_site e member in
      elim is.which [
        | inl to_me ↦
            let here_gen : is.handle.generation ≡ s.generation = ap (λ (h : Handle). h.generation) (sym to_me.0)
            ∙ gen in
            elim (known is.other is.handle is.given) [
              | inl here ↦
                  let from_is : is.other ≡ tx_under s e.from = here.1 ∙ ap (tx_under s) (sym to_me.0) in
                  let to_is : tx_under s e.to ≡ tx = ap (tx_under s) to_me.1 ∙ me_tx in
                  record {
                    ends = inr (to_is, subst (Contains s.order) from_is here.2);
                    conflict =
                        joined e at (tx_under s e.from) (tx_under s e.to)
                        (subst (λ a. Conflicts (edges.followed p.site tx r.draft.touched) e.label.kind e.label.item a
                        (tx_under s e.to)) from_is
                        (subst (Conflicts (edges.followed p.site tx r.draft.touched) e.label.kind e.label.item
                        is.other) (sym to_is) to_me.2));
                  }
              | inr older ↦ absurd (omega (arith, older.0, here_gen))
            ]
        | inr from_me ↦
            let lt = older_first s.before _ windows e.label.kind e.label.item tx is.other from_me.2 late in
            let here = here_after is.other is.handle is.given lt in
            let from_is : tx_under s e.from ≡ tx = ap (tx_under s) from_me.0 ∙ me_tx in
            let to_is : is.other ≡ tx_under s e.to = here.1 ∙ ap (tx_under s) (sym from_me.1) in
            record {
              ends = inl (from_is, subst (Contains s.order) to_is here.2);
              conflict =
                  joined e at (tx_under s e.from) (tx_under s e.to)
                  (subst (Conflicts (edges.followed p.site tx r.draft.touched) e.label.kind e.label.item
                  (tx_under s e.from)) to_is
                  (subst (λ a. Conflicts (edges.followed p.site tx r.draft.touched) e.label.kind e.label.item a
                  is.other) (sym from_is) from_me.2));
            }
      ]
    where
      joined : (e : Edge) → e.label.site ≡ t → (a b : ℕ)
          → Conflicts (edges.followed p.site tx r.draft.touched) e.label.kind e.label.item a b
          → Conflicts (followed c tx e.label.site) e.label.kind e.label.item a b
      joined e at a b is =
          subst (λ es. Conflicts es e.label.kind e.label.item a b) (sym (ap (followed c tx) at ∙ logs)) is

  -- ---- walks of the edges that were given lead over arcs

  abbrev Step : ℕ → ℕ → Type 0
  Step a b = Joins given_arcs a b ⊎ Joins (arcs_of s more) a b

  old_leads : (x : Name) (g h : Handle) → IsOldEdge p.site x g h → g.generation ≡ s.generation
      → (h.generation ≡ s.generation) × Reaches Step (tx_under s g) (tx_under s h)
  old_leads x g h is gen = elim (known is.first g is.from_first) [
    | inr older ↦ absurd (omega (arith, older.0, gen))
    | inl first ↦
        let in_c : Conflicts (c.entries t) is.kind x is.first is.second =
        subst (λ es. Conflicts es is.kind x is.first is.second) (sym place.entries) is.conflict in
        let lt = older_first s.before (c.entries t) (k.sound.ordered.windows t) is.kind x is.first is.second in_c
        (in_order is.first first.2) in
        let second = here_after is.second h is.to_second lt in
        let arc =
        k.sound.ordered.edges t is.kind x is.first is.second first.2 second.2
        (in_longer (c.entries t) (c.due t) is.kind x is.first is.second in_c) in
        let lead = reaches_alike (Joins given_arcs) Step (λ a b j. inl j) is.first is.second
        (carries.lead is.first is.second (record { site = t; item = x; kind = is.kind }, arc)) in
        (second.0, subst (λ a. Reaches Step a (tx_under s h)) first.1 (subst (Reaches Step is.first) second.1 lead))
  ]

  given_leads : (e : Edge) → Contains more e → e.from.generation ≡ s.generation
      → (e.to.generation ≡ s.generation) × Reaches Step (tx_under s e.from) (tx_under s e.to)
  given_leads e member gen =
      let is = conflict_of e member in
      let there : e.to.generation ≡ s.generation = elim is.which [
        | inl to_me ↦ ap (λ (h : Handle). h.generation) to_me.1 ∙ me_here
        | inr from_me ↦ forward_of e member from_me.0
      ] in
      (there, ([], inr (e.label, arc_of_edge s more e member gen)))

  walk_leads : (x : Name) (g h : Handle) → Walks p.site x more g h → g.generation ≡ s.generation
      → (h.generation ≡ s.generation) × Reaches Step (tx_under s g) (tx_under s h)
  walk_leads x g h (given e has item) gen = given_leads e has gen
  walk_leads x g h (old a b is) gen = old_leads x a b is gen
  walk_leads x g h (on a b d first second) gen =
      let one = walk_leads x a b first gen in
      let two = walk_leads x b d second one.0 in
      (two.0, reaches-on Step (tx_under s a) (tx_under s b) (tx_under s d) one.1 two.1)

  -- ---- each edge of the transaction here is such a walk

  due_none : c.due t ≡ []
  due_none = empty (c.due t) (λ e m. let o : Some (tx_of e) ≡ None = sym (k.sound.ordered.due t e m) ∙ undecided in
      absurd cc)
    where
      empty : (es : List Entry) → ((e : Entry) → Contains es e → ⊥) → es ≡ []
      empty [] g = refl
      empty (e ∷ es) g = absurd (g e (cons_here e es))

  inside : (e : Entry) → Contains (c.entries t) e → t < length c.items
  inside e member =
      below (length c.items) t
      (λ out. contains-none e (subst (λ es. Contains es e) (k.sound.walked.outside t out) member))
    where
      below : (n u : ℕ) → (n ≤ u → ⊥) → u < n
      below n u out = omega (arith, out)

  commits_here : (e : Entry) → Contains (c.entries t) e → Contains s.order (tx_of e)
      → Contains (c.entries t) (entry.Commit (tx_of e))
  commits_here e member ordered =
      let legal = (k.sound.legal.sites t (inside e member)).log in
      let log : (c.entries t ++ c.due t) ≡ c.entries t = ap (λ es. c.entries t ++ es) due_none
      ∙ append-nil (c.entries t) in
      elim (legal.stands e (Contains-append_left (c.entries t) (c.due t) e member)) [
        | inl free ↦
            let o : Some (tx_of e) ≡ None = sym (k.sound.ordered.certifier.committed_open (tx_of e) free.1.0 ordered)
            ∙ undecided in
            absurd cc
        | inr done ↦
            let f = done.1 in
            let committed_at =
            k.sound.ruled.from_serial (tx_of e) (Contains-append_right s.past s.order (tx_of e) ordered) in
            elim (legal.stands f.0 f.1) [
              | inl free ↦ absurd (read_no_end f.0 free.0 f.2)
              | inr ended ↦
                  let by = ended.0.1 in
                  let same =
                  same_ruling s k.sound.ruled ended.0.0 committed_at.0 by.0 (committed (tx_of e)) by.1
                  committed_at.1 (by.2 ∙ f.3) in
                  let is = commit_is f.0 (tx_of e) f.2 (subst (SuitsRuling f.0) same by.3) in
                  subst (Contains (c.entries t)) (is ∙ ap entry.Commit f.3) (subst (λ es. Contains es f.0) log f.1)
            ]
      ]

  has_handle : (e : Entry) → Contains (c.entries t) e → Contains s.order (tx_of e)
      → (h : Handle) × (handle_of p.site.installed (tx_of e) ≡ Some h)
  has_handle e member ordered =
      commit_handle p.site site (tx_of e) (subst (λ es. Contains es (entry.Commit (tx_of e))) place.entries
      (commits_here e member ordered))

  in_entries : (n : ℕ) (e : Entry) → slice_get (followed c tx t) n ≡ Some e → (tx_of e ≡ tx → ⊥)
      → Contains (c.entries t) e
  in_entries n e at other = elim (place_cases (c.entries t) (as_changes tx (c.changes tx t)) n e at) [
    | inl logged ↦ Contains-from_at (c.entries t) n e logged.1
    | inr changed ↦ absurd (other (changes_tx tx (c.changes tx t) e (Contains-from_at _ changed.0 e changed.2)))
  ]

  lead_to : (o : ℕ) (kind : Kind) (x : Name) → Contains s.order o → Conflicts (followed c tx t) kind x tx o
      → Reaches Step tx o
  lead_to o kind x ordered is =
      let member = in_entries is.q is.f is.second (λ own_f. is.apart (sym own_f ∙ is.to)) in
      let found = has_handle is.f member (subst (Contains s.order) (sym is.to) ordered) in
      let h = found.0 in
      let has : handle_of p.site.installed o ≡ Some h = ap (handle_of p.site.installed) (sym is.to) ∙ found.1 in
      let here = here_after o h has (in_order o ordered) in
      let apart : me ≢ h = λ same. is.apart (sym me_tx ∙ (ap (tx_under s) same ∙ sym here.1)) in
      let edge = conflict_is p.site tx r.draft.touched me site active x me h kind (record {
        other = o;
        handle = h;
        given = has;
        which = inr (refl, refl, subst (λ es. Conflicts es kind x tx o) logs is);
        apart = apart;
      }) in
      let lead = (walk_leads x me h (stand x me h kind edge) me_here).1 in
      subst (Reaches Step tx) (sym here.1) (subst (λ a. Reaches Step a (tx_under s h)) me_tx lead)

  lead_from : (o : ℕ) (kind : Kind) (x : Name) → Contains s.order o → Conflicts (followed c tx t) kind x o tx
      → Reaches Step o tx
  lead_from o kind x ordered is =
      let member = in_entries is.p is.e is.first (λ own_e. is.apart (sym is.from ∙ own_e)) in
      let found = has_handle is.e member (subst (Contains s.order) (sym is.from) ordered) in
      let h = found.0 in
      let has : handle_of p.site.installed o ≡ Some h = ap (handle_of p.site.installed) (sym is.from) ∙ found.1 in
      let here = here_after o h has (in_order o ordered) in
      let apart : h ≢ me = λ same. is.apart (here.1 ∙ (ap (tx_under s) same ∙ me_tx)) in
      let edge = conflict_is p.site tx r.draft.touched me site active x h me kind (record {
        other = o;
        handle = h;
        given = has;
        which = inl (refl, refl, subst (λ es. Conflicts es kind x o tx) logs is);
        apart = apart;
      }) in
      let lead = (walk_leads x h me (stand x h me kind edge) here.0).1 in
      subst (λ a. Reaches Step a tx) (sym here.1) (subst (Reaches Step (tx_under s h)) me_tx lead)

  all_lead : (arc : Arc) → IsEdgeOf c tx arc → arc.label.site ≡ t → Reaches Step arc.from arc.to
  all_lead arc is at =
      let there : Conflicts (followed c tx t) arc.label.kind arc.label.item arc.from arc.to =
      subst (λ u. Conflicts (followed c tx u) arc.label.kind arc.label.item arc.from arc.to) at is.conflict in
      elim is.ends [
        | inl from ↦
            let mine : Conflicts (followed c tx t) arc.label.kind arc.label.item tx arc.to =
            subst (λ a. Conflicts (followed c tx t) arc.label.kind arc.label.item a arc.to) from.0 there in
            subst (λ a. Reaches Step a arc.to) (sym from.0) (lead_to arc.to arc.label.kind arc.label.item from.1 mine)
        | inr to ↦
            let mine : Conflicts (followed c tx t) arc.label.kind arc.label.item arc.from tx =
            subst (Conflicts (followed c tx t) arc.label.kind arc.label.item arc.from) to.0 there in
            subst (Reaches Step arc.from) (sym to.0) (lead_from arc.from arc.label.kind arc.label.item to.1 mine)
      ]

  -- ---- with the edges that were gathered before

  abbrev gathered_too : CoreState
  gathered_too = record c { step = Some (record { tx = tx; gathered = t ∷ gathered_in c.step }) }

  too : (arc : Arc) → IsEdgeOf c tx arc → IsEdgeOf gathered_too tx arc
  too arc is = record { ends = is.ends; conflict = is.conflict }

  back : (arc : Arc) → IsEdgeOf gathered_too tx arc → IsEdgeOf c tx arc
  back arc is = record { ends = is.ends; conflict = is.conflict }

  -- the certifier's own state is that of the model but for its arcs
  module _ (before_edges : List Edge) (h : AreGathered m.certifier c tx before_edges) where
    abbrev u : State
    u = m.certifier

    same_place : h.place ≡ slot
    same_place =
        let first = ap (λ (st : State). st.before) carries.same in
        let window = h.window in
        omega (arith, first, window, number, same_before)

    arcs_same : (es : List Edge) → arcs_of s es ≡ arcs_of u es
    arcs_same es = ap (λ st. arcs_of st es) carries.same

    handle_is : me ≡ record { index = h.place; generation = u.generation }
    handle_is =
        own.handle
        ∙ (ap (λ i. record { index = i; generation = s.generation }) (sym same_place)
        ∙ ap (λ (st : State). record { index = h.place; generation = st.generation }) carries.same)

    arcs_both : (arc : Arc) → Contains (arcs_of u (before_edges ++ more)) arc → Contains (arcs_of u before_edges) arc
        ⊎ Contains (arcs_of u more) arc
    arcs_both arc member =
        let e = arc_from u (before_edges ++ more) arc member in
        elim (Contains-append_cases before_edges more e.0 e.1) [
          | inl old_edge ↦ inl
              (subst (Contains (arcs_of u before_edges)) e.3 (arc_of_edge u before_edges e.0 old_edge e.2))
          | inr new_edge ↦ inr (subst (Contains (arcs_of u more)) e.3 (arc_of_edge u more e.0 new_edge e.2))
        ]

    arcs_left : (arc : Arc) → Contains (arcs_of u before_edges) arc → Contains (arcs_of u (before_edges ++ more)) arc
    arcs_left arc member =
        let e = arc_from u before_edges arc member in
        subst (Contains (arcs_of u (before_edges ++ more))) e.3
        (arc_of_edge u (before_edges ++ more) e.0 (Contains-append_left before_edges more e.0 e.1) e.2)

    arcs_right : (arc : Arc) → Contains (arcs_of u more) arc → Contains (arcs_of u (before_edges ++ more)) arc
    arcs_right arc member =
        let e = arc_from u more arc member in
        subst (Contains (arcs_of u (before_edges ++ more))) e.3
        (arc_of_edge u (before_edges ++ more) e.0 (Contains-append_right before_edges more e.0 e.1) e.2)

    pub gathered_more : AreGathered m.certifier
        (record c { step = Some (record { tx = tx; gathered = t ∷ gathered_in c.step }) }) tx (before_edges ++ more)
    gathered_more = record {
      place = h.place;
      window = h.window;
      fit = λ e member. elim (Contains-append_cases before_edges more e member) [
        | inl old_edge ↦ h.fit e old_edge
        | inr new_edge ↦ subst (λ g. Fits u g e) handle_is (subst (λ st. Fits st me e) carries.same (fits e new_edge))
      ];
      forward = λ e member from. elim (Contains-append_cases before_edges more e member) [
        | inl old_edge ↦ h.forward e old_edge from
        | inr new_edge ↦ forward_of e new_edge (from ∙ sym handle_is) ∙ ap (λ (st : State). st.generation) carries.same
      ];
      here = λ e member. elim (Contains-append_cases before_edges more e member) [
        | inl old_edge ↦ contains-later t (gathered_in c.step) e.label.site (h.here e old_edge)
        | inr new_edge ↦ subst (Contains (t ∷ gathered_in c.step)) (sym (label_site e new_edge))
            (cons_here t (gathered_in c.step))
      ];
      once = AllPairs-append (λ e f. e ≢ f) before_edges more h.once differ (λ e f old_edge new_edge same.
          fresh (subst (Contains (gathered_in c.step)) (ap (λ (d : Edge). d.label.site) same
          ∙ label_site f new_edge) (h.here e old_edge)));
      own = λ arc member. elim (arcs_both arc member) [
        | inl old_arc ↦ too arc (h.own arc old_arc)
        | inr new_arc ↦
            let e = arc_from s more arc (subst (λ arcs. Contains arcs arc) (sym (arcs_same more)) new_arc) in
            subst (IsEdgeOf gathered_too tx) e.3 (too (arc_under s e.0) (own_edge e.0 e.1 e.2))
      ];
      lead = λ arc is gathered. elim (contains-cases t (gathered_in c.step) arc.label.site gathered) [
        | inl here ↦
            reaches_alike Step (λ a b. Joins u.arcs a b ⊎ Joins (arcs_of u (before_edges ++ more)) a b)
            (λ a b j. elim j [
              | inl old_join ↦ inl old_join
              | inr new_join ↦ inr (
                new_join.0,
                arcs_right (arc_between a b new_join.0) (subst (λ arcs. Contains arcs (arc_between a b new_join.0))
                    (arcs_same more) new_join.1),
              )
            ]) arc.from arc.to (all_lead arc (back arc is) (sym here))
        | inr before ↦
            reaches_alike (λ a b. Joins u.arcs a b ⊎ Joins (arcs_of u before_edges) a b) (λ a b. Joins u.arcs a b
            ⊎ Joins (arcs_of u (before_edges ++ more)) a b)
            (λ a b j. elim j [
              | inl old_join ↦ inl old_join
              | inr new_join ↦ inr (new_join.0, arcs_left (arc_between a b new_join.0) new_join.1)
            ]) arc.from arc.to (h.lead arc (back arc is) before)
      ];
    }

-- nothing is gathered yet
pub none_gathered : (s : State) (c : CoreState) (tx slot : ℕ) → tx ≡ suc (s.before + slot) → gathered_in c.step ≡ []
    → AreGathered s c tx []
none_gathered s c tx slot number none = record {
  place = slot;
  window = number;
  fit = λ e member. absurd (contains-none e member);
  forward = λ e member from. absurd (contains-none e member);
  here = λ e member. absurd (contains-none e member);
  once = no-edges [] refl;
  own = λ arc member. absurd (contains-none arc member);
  lead = λ arc is gathered. absurd
      (contains-none arc.label.site (subst (λ ts. Contains ts arc.label.site) none gathered));
}
