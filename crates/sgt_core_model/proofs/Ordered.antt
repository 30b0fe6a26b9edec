-- Each step of the core keeps the committed transactions in an order that no logged conflict goes back in.
use Rattle.std.proofs.Common.{◌≡◌, ◌<◌, ◌≤◌, ℕ, Bool, true, false, cond, List, [], ◌∷◌, ◌++◌, length, refl, sym, ◌∙◌, arith, ◌⊎◌, inl, inr, Contains, Option, Some, None, subst, ap, append_assoc}
use Rattle.std.specs.Prelude.{slice_get, ◌==◌}
use Rattle.std.proofs.lemmas.Bool.{cases_Bool, cases_eq, eq-eqb, ne_eqb}
use Rattle.std.proofs.lemmas.List.{append-nil}
use Rattle.std.proofs.lemmas.List.Elements.{Contains-append_cases, Contains-append_left, Contains-append_right}
use Rattle.sgt_names.specs.Name.{Name}
use Rattle.sgt_names.specs.Entry.{tx_of, Clash}
use Rattle.sgt_names.specs.Log.{Conflicts}
use Rattle.sgt_names.specs.declared.entry.Change.{Change}
use Rattle.sgt_names.specs.declared.entry.Entry.{Entry}
use Rattle.sgt_names.specs.declared.entry.Entry.TheVariants as entry
use Rattle.sgt_names.specs.declared.entry.Holding.{Holding}
use Rattle.sgt_names.specs.declared.entry.Kind.{Kind}
use Rattle.sgt_names.specs.declared.entry.Kind.TheVariants.{Wr, Rw, Ww}
use Rattle.sgt_names.proofs.Places.{AllPairs-from_at, AllPairs_at, Contains-from_at}
use Rattle.sgt_order.specs.Graph.{IsTopological}
use Rattle.sgt_bundle.specs.declared.certificate.Step.{Step}
use Rattle.sgt_certifier.specs.Certifier.{State, Arc, committed, refused, Joins, Commits, Refuses, serial, with_begun, with_finished, with_withdrawn, with_install, with_closed}
use Rattle.sgt_certifier.specs.Sound.{IsSoundCertifier, IsOfWindow, AreNew}
use Rattle.sgt_certifier.proofs.Members.{place_cases, placed_member, AllPairs-append}
use Rattle.sgt_certifier.proofs.Keeping.{opening-sound, begun-sound, finished-sound, withdrawn-sound, refused-sound, committed-sound, closed-sound, renoted-sound, uncommitted}
use Rattle.sgt_core_model.specs.Core.{OpenStep, CoreState, fresh, with_entries, only_at, changed_at, touches, as_changes, AreEdges, committed_block, refused_block, withdrawn_block}
use Rattle.sgt_site.specs.State.{change_entry, want_entry}
use Rattle.sgt_core_model.specs.Runs.{IsLoggedConflict}
use Rattle.sgt_core_model.proofs.Kept.{written, IsOrdered}
use Rattle.sgt_core_model.proofs.Entries.{as_wants, of_change, change_tx, want_tx}
use Rattle.sgt_core_model.proofs.Conflicting.{without_others, in_longer, without_last}
use Rattle.sgt_names.proofs.Elements.{contains-cases, contains-none}

abbrev NotBack : (ℕ → ℕ → Type 0) → ℕ → ℕ → Type 0
NotBack edge a b = edge b a → ⊥

-- an order is topological for fewer edges too
pub topological-fewer : (E F : ℕ → ℕ → Type 0) (order : List ℕ) → IsTopological E order
    → ((a b : ℕ) → Contains order a → Contains order b → F a b → E a b) → IsTopological F order
topological-fewer E F order h fewer = AllPairs-from_at (NotBack F) order (λ p q a b lt at_a at_b f.
    AllPairs_at (NotBack E) order p q a b h lt at_a at_b
    (fewer b a (Contains-from_at order q b at_b) (Contains-from_at order p a at_a) f))

-- a conflict is one without the entries of others behind it
without_end : (xs ys : List Entry) (kind : Kind) (x : Name) (a b : ℕ) → ((e : Entry) → Contains ys e → tx_of e ≡ a → ⊥)
    → ((e : Entry) → Contains ys e → tx_of e ≡ b → ⊥) → Conflicts (xs ++ ys) kind x a b → Conflicts xs kind x a b
without_end xs ys kind x a b not_a not_b h =
    let long : Conflicts (xs ++ (ys ++ [])) kind x a b =
    subst (λ zs. Conflicts (xs ++ zs) kind x a b) (sym (append-nil ys)) h in
    subst (λ zs. Conflicts zs kind x a b) (append-nil xs) (without_others xs ys [] kind x a b not_a not_b long)

-- ---- along the serial order no logged conflict goes back

place_older : (c : CoreState) (s : ℕ) (h : IsOrdered c) (q : ℕ) (f : Entry) → slice_get (written c s) q ≡ Some f
    → tx_of f ≤ c.certifier.before
    → (n : ℕ) × (q < n) × ((p : ℕ) (e : Entry) → p < n → slice_get (written c s) p ≡ Some e
    → tx_of e ≤ c.certifier.before)
place_older c s h q f at_q early =
    let w = h.windows s in
    let all_is : written c s ≡ w.older ++ (w.newer ++ c.due s) = ap (λ xs. xs ++ c.due s) w.parts
    ∙ append_assoc w.older w.newer (c.due s) in
    elim (place_cases w.older (w.newer ++ c.due s) q f (ap (λ xs. slice_get xs q) (sym all_is) ∙ at_q)) [
      | inl front ↦ (
        length w.older,
        front.0,
        λ p e lt at_p.
            elim (place_cases w.older (w.newer ++ c.due s) p e (ap (λ xs. slice_get xs p) (sym all_is) ∙ at_p)) [
              | inl front_p ↦ w.old e (Contains-from_at w.older p e front_p.1)
              | inr back_p ↦ absurd (omega (arith, lt, back_p.1))
            ],
      )
      | inr back ↦
          elim (place_cases w.newer (c.due s) back.0 f back.2) [
            | inl newer ↦ let late = w.new f (Contains-from_at w.newer back.0 f newer.1) in absurd (omega arith)
            | inr due ↦
                let owed = h.due s f (Contains-from_at (c.due s) due.0 f due.2) in
                let late = h.certifier.active_here (tx_of f) (h.certifier.open_active (tx_of f) owed) in
                absurd (omega (arith, late.0))
          ]
    ]

-- no conflict leads from a transaction of this window to one of a closed window
never_back : (c : CoreState) (h : IsOrdered c) (a b : ℕ) → a ≤ c.certifier.before → c.certifier.before < b
    → IsLoggedConflict (written c) b a → ⊥
never_back c h a b early late k =
    let con = k.3 in
    let r = place_older c k.0 h con.q con.f con.second (subst (λ t. t ≤ c.certifier.before) (sym con.to) early) in
    let le = r.2 con.p con.e (let lt = con.before in omega (arith, r.1)) con.first in
    let from = con.from in
    omega arith

pub ordered-serial : (c : CoreState) → IsOrdered c → IsTopological (IsLoggedConflict (written c)) (serial c.certifier)
ordered-serial c h =
    let E = IsLoggedConflict (written c) in
    AllPairs-append (NotBack E) c.certifier.past c.certifier.order h.past
    (topological-fewer (Joins c.certifier.arcs) E c.certifier.order h.certifier.topological
    (λ a b ca cb k. (_, h.edges k.0 k.1 k.2 a b ca cb k.3)))
    (λ a b ca cb k. never_back c h a b (h.certifier.past_before a ca) (h.certifier.order_here b cb).0 k)

-- ---- entries of a transaction that isn't committed

grown-ordered : (c : CoreState) (j : ℕ) (more : ℕ → List Entry) → IsOrdered c → c.certifier.before < j
    → j ≤ c.certifier.begun
    → (Contains c.certifier.order j → ⊥) → ((s : ℕ) (e : Entry) → Contains (more s) e → tx_of e ≡ j)
    → IsOrdered (with_entries c more)
grown-ordered c j more h late begun out own =
    let shorter : (s : ℕ) (kind : Kind) (x : Name) (a b : ℕ) → (a ≡ j → ⊥) → (b ≡ j → ⊥)
    → Conflicts (written (with_entries c more) s) kind x a b
    → Conflicts (written c s) kind x a b
    = λ s kind x a b not_a not_b k.
    without_others (c.entries s) (more s) (c.due s) kind x a b (λ e m f. not_a (sym f ∙ own s e m))
    (λ e m f. not_b (sym f ∙ own s e m))
    (subst (λ zs. Conflicts zs kind x a b) (append_assoc (c.entries s) (more s) (c.due s)) k) in
    let not_placed : (a : ℕ) → Contains c.certifier.order a → a ≡ j
    → ⊥ = λ a ca e. out (subst (Contains c.certifier.order) e ca) in
    let not_past : (a : ℕ) → Contains c.certifier.past a → a ≡ j → ⊥ = λ a ca e. let p =
    h.certifier.past_before a ca in omega arith in
    record {
      certifier = h.certifier;
      due = h.due;
      begun = λ s e m. elim (Contains-append_cases (c.entries s) (more s) e m) [
        | inl was ↦ h.begun s e was
        | inr new ↦ subst (λ t. t ≤ c.certifier.begun) (sym (own s e new)) begun
      ];
      windows = λ s. let w = h.windows s in record {
        older = w.older;
        newer = w.newer ++ more s;
        parts = ap (λ xs. xs ++ more s) w.parts ∙ append_assoc w.older w.newer (more s);
        old = w.old;
        new = λ e m. elim (Contains-append_cases w.newer (more s) e m) [
          | inl was ↦ w.new e was
          | inr new ↦ subst (λ t. c.certifier.before < t) (sym (own s e new)) late
        ];
      };
      edges = λ s kind x a b ca cb k. h.edges s kind x a b ca cb
          (shorter s kind x a b (not_placed a ca) (not_placed b cb) k);
      past = topological-fewer (IsLoggedConflict (written c)) (IsLoggedConflict (written (with_entries c more)))
          c.certifier.past h.past
          (λ a b ca cb k. (k.0, k.1, k.2, shorter k.0 k.1 k.2 a b (not_past a ca) (not_past b cb) k.3));
    }

-- ---- the end of a step

pub closing-ordered : (c : CoreState) (i : ℕ) → IsOrdered c → c.certifier.step ≡ Some i
    → IsOrdered (record c { certifier = with_finished c.certifier i; step = None; due = λ s. [] })
closing-ordered c i h open_i =
    let longer : (s : ℕ) (kind : Kind) (x : Name) (a b : ℕ) → Conflicts (c.entries s ++ []) kind x a b
    → Conflicts (written c s) kind x a b
    = λ s kind x a b k. in_longer (c.entries s) (c.due s) kind x a b
    (subst (λ zs. Conflicts zs kind x a b) (append-nil (c.entries s)) k) in
    record {
      certifier = finished-sound c.certifier i h.certifier open_i;
      due = λ s e m. absurd (contains-none e m);
      begun = h.begun;
      windows = h.windows;
      edges = λ s kind x a b ca cb k. h.edges s kind x a b ca cb (longer s kind x a b k);
      past = topological-fewer (IsLoggedConflict (written c)) (IsLoggedConflict (λ s. c.entries s ++ []))
          c.certifier.past h.past
          (λ a b ca cb k. (k.0, k.1, k.2, longer k.0 k.1 k.2 a b k.3));
    }

-- ---- a transaction begins, reads, or means to change an item

pub begin-ordered : (c : CoreState) → IsOrdered c → c.certifier.step ≡ None
    → IsOrdered (record c { certifier = with_begun c.certifier })
begin-ordered c o idle = record {
  certifier = begun-sound c.certifier o.certifier idle;
  due = o.due;
  begun = λ s e m. let le = o.begun s e m in omega arith;
  windows = o.windows;
  edges = o.edges;
  past = o.past;
}

pub only_tx : (k : ℕ) (es : List Entry) (j : ℕ) → ((e : Entry) → Contains es e → tx_of e ≡ j) → (s : ℕ) (e : Entry)
    → Contains (only_at k es s) e → tx_of e ≡ j
only_tx k es j own s e m =
    elim (cases_Bool (s == k)) [
      | inl here ↦ own e (subst (λ b. Contains (cond b es []) e) here m)
      | inr there ↦ absurd (contains-none e (subst (λ b. Contains (cond b es []) e) there m))
    ]

pub read-ordered : (c : CoreState) (tx s : ℕ) (x : Name) (v : ℕ) → IsOrdered c → Contains c.certifier.active tx
    → (c.certifier.step ≡ Some tx → ⊥)
    → IsOrdered (with_entries c (only_at s (entry.Read tx x v ∷ [])))
read-ordered c tx s x v o active free =
    let here = o.certifier.active_here tx active in
    grown-ordered c tx (only_at s (entry.Read tx x v ∷ [])) o here.0 here.1
    (λ placed_in. free (o.certifier.committed_open tx active placed_in))
    (only_tx s (entry.Read tx x v ∷ []) tx (λ e m. elim (contains-cases (entry.Read tx x v) [] e m) [
      | inl is ↦ ap tx_of (sym is)
      | inr none ↦ absurd (contains-none e none)
    ]))

pub same-ordered : (c : CoreState) (changes : ℕ → ℕ → List (Name × Change)) (step : Option OpenStep) → IsOrdered c
    → IsOrdered (record c { changes = changes; step = step })
same-ordered c changes step o = record {
  certifier = o.certifier;
  due = o.due;
  begun = o.begun;
  windows = o.windows;
  edges = o.edges;
  past = o.past;
}

-- ---- blocks

block_tx : (t : Bool) (ops : List Entry) (last : Entry) (i : ℕ) → ((e : Entry) → Contains ops e → tx_of e ≡ i)
    → tx_of last ≡ i
    → (e : Entry) → Contains (cond t (ops ++ last ∷ []) []) e → tx_of e ≡ i
block_tx false ops last i own end e m = absurd (contains-none e m)
block_tx true ops last i own end e m = elim (Contains-append_cases ops (last ∷ []) e m) [
  | inl op ↦ own e op
  | inr at_end ↦ elim (contains-cases last [] e at_end) [
    | inl is ↦ ap tx_of (sym is)
        ∙ end
    | inr none ↦ absurd (contains-none e none)
  ]
]

pub changes_tx : (i : ℕ) (cs : List (Name × Change)) (e : Entry) → Contains (as_changes i cs) e → tx_of e ≡ i
changes_tx i cs e m = let d = of_change (change_entry i) cs e m in ap tx_of (sym d.2) ∙ change_tx i d.0.0 d.0.1

wants_tx : (i : ℕ) (cs : List (Name × Change)) (e : Entry) → Contains (as_wants i cs) e → tx_of e ≡ i
wants_tx i cs e m = let d = of_change (want_entry i) cs e m in ap tx_of (sym d.2) ∙ want_tx i d.0.0 d.0.1

commit_free : (kind : Kind) (x : Name) (i : ℕ) (e : Entry) → Clash kind x e (entry.Commit i) → ⊥
commit_free Wr x i e k = k.1
commit_free Rw x i e k = k.1
commit_free Ww x i e k = k.1

-- a conflict in the log with the block is one in the log with the private changes
block_conflict : (t : Bool) (xs ops : List Entry) (i : ℕ) (kind : Kind) (x : Name) (a b : ℕ)
    → Conflicts (xs ++ cond t (ops ++ entry.Commit i ∷ []) []) kind x a b
    → Conflicts (xs ++ ops) kind x a b
block_conflict false xs ops i kind x a b k =
    in_longer xs ops kind x a b (subst (λ zs. Conflicts zs kind x a b) (append-nil xs) k)
block_conflict true xs ops i kind x a b k =
    without_last (xs ++ ops) (entry.Commit i) kind x a b (commit_free kind x i)
    (subst (λ zs. Conflicts zs kind x a b) (sym (append_assoc xs ops (entry.Commit i ∷ []))) k)

-- ---- decisions

committed_tx : (c : CoreState) (i s : ℕ) (e : Entry) → Contains (committed_block c i s) e → tx_of e ≡ i
committed_tx c i s e m = block_tx (touches c i s) (as_changes i (c.changes i s)) (entry.Commit i) i
    (changes_tx i (c.changes i s)) refl e m

refused_tx : (c : CoreState) (i s : ℕ) (e : Entry) → Contains (refused_block c i s) e → tx_of e ≡ i
refused_tx c i s e m = block_tx (touches c i s) (as_wants i (c.changes i s)) (entry.Refuse i) i
    (wants_tx i (c.changes i s)) refl e m

withdrawn_tx : (c : CoreState) (i s : ℕ) (e : Entry) → Contains (withdrawn_block c i s) e → tx_of e ≡ i
withdrawn_tx c i s e m = block_tx (touches c i s) [] (entry.Withdraw i) i (λ f n. absurd (contains-none f n)) refl e m

pub edges-new : (c : CoreState) (i : ℕ) (arcs : List Arc) → AreEdges c i arcs → AreNew c.certifier i arcs
edges-new c i arcs edges arc m = ((edges arc).0 m).ends

-- the conflicts of others are those without i's block
module _ (c : CoreState) (i : ℕ) (block : ℕ → List Entry) (own : (s : ℕ) (e : Entry) → Contains (block s) e
    → tx_of e ≡ i) where
  before_block : (s : ℕ) (kind : Kind) (x : Name) (a b : ℕ) → (a ≡ i → ⊥) → (b ≡ i → ⊥)
      → Conflicts (c.entries s ++ block s) kind x a b
      → Conflicts (written c s) kind x a b
  before_block s kind x a b not_a not_b k =
      in_longer (c.entries s) (c.due s) kind x a b
      (without_end (c.entries s) (block s) kind x a b (λ e n f. not_a (sym f ∙ own s e n))
      (λ e n f. not_b (sym f ∙ own s e n)) k)

  before_past : IsOrdered c → Contains c.certifier.active i
      → IsTopological (IsLoggedConflict (λ s. c.entries s ++ block s)) c.certifier.past
  before_past h active =
      let late = (h.certifier.active_here i active).0 in
      let not_past : (a : ℕ) → Contains c.certifier.past a → a ≡ i → ⊥ = λ a ca e. let p =
      h.certifier.past_before a ca in omega arith in
      topological-fewer (IsLoggedConflict (written c)) (IsLoggedConflict (λ s. c.entries s ++ block s))
      c.certifier.past h.past
      (λ a b ca cb k. (k.0, k.1, k.2, before_block k.0 k.1 k.2 a b (not_past a ca) (not_past b cb) k.3))

pub yes-ordered : (c : CoreState) (i : ℕ) (arcs : List Arc) (mid : State) → IsOrdered c → c.certifier.step ≡ None
    → Contains c.certifier.active i
    → AreEdges c i arcs → Commits c.certifier i arcs mid
    → IsOrdered (record c { certifier = mid; due = committed_block c i })
yes-ordered c i arcs mid h none active edges m =
    let old = c.certifier in
    let out : Contains old.order i → ⊥ = uncommitted old i h.certifier none active in
    let sound : IsSoundCertifier mid =
    committed-sound old i arcs mid h.certifier none active (edges-new c i arcs edges) m in
    let after : CoreState = record c {
      certifier = record old {
        order = m.places;
        arcs = old.arcs ++ arcs;
        step = Some i;
        rulings =
            old.rulings ++ committed i ∷ [];
      };
      due = committed_block c i;
    } in
    let member : (t : ℕ) → Contains m.places t → (t ≡ i) ⊎ Contains old.order t =
    λ t k. placed_member m.placed.0 old.order i t (subst (λ p. Contains p t) m.placed.2 k) in
    let not_old : (a : ℕ) → Contains old.order a → a ≡ i → ⊥ = λ a ca e. out (subst (Contains old.order) e ca) in
    let result : IsOrdered after = record {
      certifier = subst IsSoundCertifier m.after sound;
      due = λ s e n. ap Some (sym (committed_tx c i s e n));
      begun = h.begun;
      windows = h.windows;
      edges = λ s kind x a b ca cb k.
          let arc : Arc = record { from = a; to = b; label = record { site = s; item = x; kind = kind } } in
          let own : Conflicts (c.entries s ++ as_changes i (c.changes i s)) kind x a b =
          block_conflict (touches c i s) (c.entries s) (as_changes i (c.changes i s)) i kind x a b k in
          elim (member a ca) [
            | inl a_is ↦
                elim (member b cb) [
                  | inl b_is ↦ absurd (k.apart (a_is ∙ sym b_is))
                  | inr b_old ↦ Contains-append_right old.arcs arcs arc
                      ((edges arc).1 (record { ends = inl (a_is, b_old); conflict = own }))
                ]
            | inr a_old ↦
                elim (member b cb) [
                  | inl b_is ↦ Contains-append_right old.arcs arcs arc
                      ((edges arc).1 (record { ends = inr (b_is, a_old); conflict = own }))
                  | inr b_old ↦
                      Contains-append_left old.arcs arcs arc
                      (h.edges s kind x a b a_old b_old
                      (before_block c i (committed_block c i) (committed_tx c i) s kind x a b (not_old a a_old)
                      (not_old b b_old) k))
                ]
          ];
      past = before_past c i (committed_block c i) (committed_tx c i) h active;
    } in
    subst (λ state. IsOrdered (record c { certifier = state; due = committed_block c i })) (sym m.after) result

pub no-ordered : (c : CoreState) (i : ℕ) (arcs : List Arc) (walk : List Step) (mid : State) → IsOrdered c
    → c.certifier.step ≡ None
    → Contains c.certifier.active i → Refuses c.certifier i arcs walk mid
    → IsOrdered (record c { certifier = mid; due = refused_block c i })
no-ordered c i arcs walk mid h none active r =
    let old = c.certifier in
    let out : Contains old.order i → ⊥ = uncommitted old i h.certifier none active in
    let sound : IsSoundCertifier mid = refused-sound old i arcs walk mid h.certifier none active r in
    let after : CoreState =
    record c {
      certifier = record old { step = Some i; rulings = old.rulings ++ refused i walk ∷ [] };
      due =
          refused_block c i;
    } in
    let not_old : (a : ℕ) → Contains old.order a → a ≡ i → ⊥ = λ a ca e. out (subst (Contains old.order) e ca) in
    let result : IsOrdered after = record {
      certifier = subst IsSoundCertifier r.after sound;
      due = λ s e n. ap Some (sym (refused_tx c i s e n));
      begun = h.begun;
      windows = h.windows;
      edges = λ s kind x a b ca cb k. h.edges s kind x a b ca cb
          (before_block c i (refused_block c i) (refused_tx c i) s kind x a b (not_old a ca) (not_old b cb) k);
      past = before_past c i (refused_block c i) (refused_tx c i) h active;
    } in
    subst (λ state. IsOrdered (record c { certifier = state; due = refused_block c i })) (sym r.after) result

-- ---- a block written

only_member : (k : ℕ) (es : List Entry) (s : ℕ) (e : Entry) → Contains (only_at k es s) e → Contains es e
only_member k es s e m =
    elim (cases_Bool (s == k)) [
      | inl here ↦ subst (λ b. Contains (cond b es []) e) here m
      | inr there ↦ absurd (contains-none e (subst (λ b. Contains (cond b es []) e) there m))
    ]

cleared_member : (k : ℕ) (due : ℕ → List Entry) (s : ℕ) (e : Entry) → Contains (changed_at k [] due s) e
    → Contains (due s) e
cleared_member k due s e m =
    elim (cases_Bool (s == k)) [
      | inl here ↦ absurd (contains-none e (subst (λ b. Contains (cond b [] (due s)) e) here m))
      | inr there ↦ subst (λ b. Contains (cond b [] (due s)) e) there m
    ]

-- a block that is due moves into the log, and log and due together stay as they were
pub moved_block : (entries due : ℕ → List Entry) (k s : ℕ)
    → (entries s ++ only_at k (due k) s) ++ changed_at k [] due s ≡ entries s ++ due s
moved_block entries due k s =
    elim (cases_eq s k) [
      | inl e ↦ rw (eq-eqb s k e) (append-nil (entries s ++ due k) ∙ ap (λ n. entries s ++ due n) (sym e))
      | inr ne ↦ rw (ne_eqb s k ne) (ap (λ xs. xs ++ due s) (append-nil (entries s)))
    ]

pub install-ordered : (c : CoreState) (k : ℕ) → IsOrdered c
    → IsOrdered (record (with_entries c (only_at k (c.due k))) { due = changed_at k [] c.due })
install-ordered c k o =
    let more = only_at k (c.due k) in
    let here : (e : Entry) → Contains (c.due k) e → IsOfWindow c.certifier (tx_of e) =
    λ e m. o.certifier.active_here (tx_of e) (o.certifier.open_active (tx_of e) (o.due k e m)) in
    let after : CoreState = record (with_entries c more) { due = changed_at k [] c.due } in
    let before : (s : ℕ) (kind : Kind) (x : Name) (a b : ℕ) → Conflicts (written after s) kind x a b
    → Conflicts (written c s) kind x a b
    = λ s kind x a b n. subst (λ zs. Conflicts zs kind x a b) (moved_block c.entries c.due k s) n in
    record {
      certifier = o.certifier;
      due = λ s e m. o.due s e (cleared_member k c.due s e m);
      begun = λ s e m. elim (Contains-append_cases (c.entries s) (more s) e m) [
        | inl was ↦ o.begun s e was
        | inr new ↦ (here e (only_member k (c.due k) s e new)).1
      ];
      windows = λ s. let w = o.windows s in record {
        older = w.older;
        newer = w.newer ++ more s;
        parts = ap (λ xs. xs ++ more s) w.parts ∙ append_assoc w.older w.newer (more s);
        old = w.old;
        new = λ e m. elim (Contains-append_cases w.newer (more s) e m) [
          | inl was ↦ w.new e was
          | inr new ↦ (here e (only_member k (c.due k) s e new)).0
        ];
      };
      edges = λ s kind x a b ca cb n. o.edges s kind x a b ca cb (before s kind x a b n);
      past = topological-fewer (IsLoggedConflict (written c)) (IsLoggedConflict (written after)) c.certifier.past o.past
          (λ a b ca cb n. (n.0, n.1, n.2, before n.0 n.1 n.2 a b n.3));
    }

pub noted-ordered : (c : CoreState) (i s : ℕ) (items : List Name) → IsOrdered c
    → IsOrdered (record c { certifier = with_install c.certifier i s items })
noted-ordered c i s items o = record {
  certifier = renoted-sound c.certifier (with_install c.certifier i s items).installs o.certifier;
  due = o.due;
  begun = o.begun;
  windows = o.windows;
  edges = o.edges;
  past = o.past;
}

-- ---- the end of a transaction by its caller, and of a window

pub withdraw-ordered : (c : CoreState) (tx : ℕ) → IsOrdered c → c.certifier.step ≡ None → Contains c.certifier.active tx
    → IsOrdered (record (with_entries c (withdrawn_block c tx)) { certifier = with_withdrawn c.certifier tx })
withdraw-ordered c tx o none active =
    let here = o.certifier.active_here tx active in
    let g = grown-ordered c tx (withdrawn_block c tx) o here.0 here.1
    (uncommitted c.certifier tx o.certifier none active) (withdrawn_tx c tx) in
    record {
      certifier = withdrawn-sound c.certifier tx o.certifier none;
      due = g.due;
      begun = g.begun;
      windows = g.windows;
      edges = g.edges;
      past = g.past;
    }

pub close-ordered : (c : CoreState) → IsOrdered c → c.certifier.step ≡ None → c.certifier.active ≡ []
    → IsOrdered (record c { certifier = with_closed c.certifier })
close-ordered c o idle none = record {
  certifier = closed-sound c.certifier o.certifier idle none;
  due = o.due;
  begun = o.begun;
  windows = λ s. record {
    older = c.entries s;
    newer = [];
    parts = sym (append-nil (c.entries s));
    old = o.begun s;
    new = λ e m. absurd (contains-none e m);
  };
  edges = λ s kind x a b ca cb n. absurd (contains-none a ca);
  past = ordered-serial c o;
}

pub fresh-ordered : (items : List (List Holding)) → IsOrdered (fresh items)
fresh-ordered items = record {
  certifier = opening-sound;
  due = λ s e m. absurd (contains-none e m);
  begun = λ s e m. absurd (contains-none e m);
  windows = λ s. record {
    older = [];
    newer = [];
    parts = refl;
    old = λ e m. absurd (contains-none e m);
    new =
        λ e m. absurd (contains-none e m);
  };
  edges = λ s kind x a b ca cb n. absurd (contains-none a ca);
  past = λ i j d lt within. absurd (omega arith);
}
