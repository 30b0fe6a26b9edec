-- Each step of the core keeps the edges, and the walks of the refusals, conflicts of the logs.
use Rattle.std.proofs.Common.{◌≡◌, ◌<◌, ◌≤◌, ℕ, Bool, true, false, cond, List, [], ◌∷◌, ◌++◌, length, refl, sym, ◌∙◌, arith, inl, inr, Contains, Option, Some, None, subst, ap, append_assoc}
use Rattle.std.specs.Prelude.{slice_get, ◌==◌, ◌||◌}
use Rattle.std.specs.List.{list_any}
use Rattle.std.proofs.lemmas.Bool.{true≢false}
use Rattle.std.proofs.lemmas.List.{append-nil}
use Rattle.std.proofs.lemmas.List.Elements.{Contains-append_cases}
use Rattle.std.proofs.lemmas.Option.{slice_get_past}
use Rattle.sgt_names.specs.Name.{Name}
use Rattle.sgt_names.specs.Entry.{tx_of}
use Rattle.sgt_names.specs.Log.{names, Conflicts}
use Rattle.sgt_names.specs.declared.entry.Change.{Change}
use Rattle.sgt_names.specs.declared.entry.Entry.{Entry}
use Rattle.sgt_names.specs.declared.entry.Entry.TheVariants as entry
use Rattle.sgt_names.specs.declared.entry.Holding.{Holding}
use Rattle.sgt_names.specs.declared.entry.Label.{Label}
use Rattle.sgt_names.specs.declared.entry.Kind.{Kind}
use Rattle.sgt_names.proofs.Places.{Contains-from_at}
use Rattle.sgt_bundle.specs.declared.certificate.Step.{Step}
use Rattle.sgt_certifier.specs.Certifier.{State, Arc, Walks, Commits, Refuses, committed, refused, withdrawn, with_finished, with_withdrawn}
use Rattle.sgt_certifier.proofs.Members.{cons_here}
use Rattle.sgt_core_model.specs.Core.{items_in, items_at, OpenStep, CoreState, fresh, with_entries, only_at, changed_at, touches, is_some_change, sites_of, as_changes, IsEdgeOf, AreEdges, committed_block, refused_block, withdrawn_block, is_empty, is_written}
use Rattle.sgt_core_model.proofs.Kept.{IsAt, AreAt, IsWalked, IsLegal}
use Rattle.sgt_core_model.proofs.Entries.{as_wants}
use Rattle.sgt_core_model.proofs.Conflicting.{in_longer, with_others, as_asked}
use Rattle.sgt_core_model.proofs.Ordered.{moved_block}
use Rattle.sgt_core_model.proofs.LegalSteps.{unchanged_there, all_pass, empty_is, touches_own}
use Rattle.sgt_names.proofs.Elements.{or_right, contains-none, get-push_cases}

-- conflicts stay
abbrev Grows : CoreState → CoreState → Type 0
Grows c d = (label : Label) (a b : ℕ) → IsAt c label a b → IsAt d label a b

steps_grow : (c d : CoreState) → Grows c d → (a : ℕ) (steps : List Step) → AreAt c a steps → AreAt d a steps
steps_grow c d g a [] h = tt
steps_grow c d g a (step ∷ steps) h = (g step.label a step.to h.0, steps_grow c d g step.to steps h.1)

grown_walks : (c d : CoreState) → IsWalked c → Grows c d
    → ((n tx : ℕ) (walk : List Step) → slice_get d.certifier.rulings n ≡ Some (refused tx walk)
    → slice_get c.certifier.rulings n ≡ Some (refused tx walk))
    → (n tx : ℕ) (walk : List Step) → slice_get d.certifier.rulings n ≡ Some (refused tx walk) → AreAt d tx walk
grown_walks c d w g same n tx walk at_n = steps_grow c d g tx walk (w.walks n tx walk (same n tx walk at_n))

entries_grow : (c : CoreState) (more : ℕ → List Entry) → Grows c (with_entries c more)
entries_grow c more label a b h = record {
  site = h.site;
  conflict =
      subst (λ es. Conflicts es label.kind label.item a b)
      (sym (append_assoc (c.entries label.site) (more label.site) (c.due label.site)))
      (with_others (c.entries label.site) (more label.site) (c.due label.site) label.kind label.item a b h.conflict);
}

pub closing-walked : (c : CoreState) (i : ℕ) → ((s : ℕ) → s < length c.items → Contains (sites_of c) s) → IsWalked c
    → is_written c ≡ true
    → IsWalked (record c { certifier = with_finished c.certifier i; step = None; due = λ s. [] })
closing-walked c i there w done =
    let after : CoreState = record c { certifier = with_finished c.certifier i; step = None; due = λ s. [] } in
    let g : Grows c after = λ label a b h. record {
      site = h.site;
      conflict = subst (λ es. Conflicts (c.entries label.site ++ es) label.kind label.item a b)
          (empty_is (c.due label.site) (all_pass (λ n. is_empty (c.due n)) (sites_of c) label.site done
          (there label.site h.site))) h.conflict;
    } in
    record {
      outside = w.outside;
      arcs = λ arc m. g arc.label arc.from arc.to (w.arcs arc m);
      walks =
          grown_walks c after w g (λ n tx walk e. e);
    }

no_changes_outside : (c : CoreState) (i s : ℕ) → IsLegal c → length c.items ≤ s → c.changes i s ≡ []
no_changes_outside c i s l out =
    empty (c.changes i s)
    (λ d m. contains-none d.0 (subst (λ o. Contains (names (items_in o)) d.0) (slice_get_past c.items s out)
    (l.changes_known i s d m)))
  where
    empty : (ds : List (Name × Change)) → ((d : Name × Change) → Contains ds d → ⊥) → ds ≡ []
    empty [] g = refl
    empty (d ∷ ds) g = absurd (g d (cons_here d ds))

pub untouched_outside : (c : CoreState) (i s : ℕ) → IsWalked c → IsLegal c → length c.items ≤ s → touches c i s ≡ false
untouched_outside c i s w l out =
    ap (λ es. list_any (λ e. tx_of e == i) es || is_some_change (c.changes i s)) (w.outside s out)
    ∙ ap is_some_change (no_changes_outside c i s l out)

touches_with : (c : CoreState) (i s n : ℕ) (e : Entry)
    → slice_get (c.entries s ++ as_changes i (c.changes i s)) n ≡ Some e → tx_of e ≡ i → touches c i s ≡ true
touches_with c i s n e at_n own =
    elim (Contains-append_cases (c.entries s) (as_changes i (c.changes i s)) e
    (Contains-from_at (c.entries s ++ as_changes i (c.changes i s)) n e at_n)) [
      | inl logged ↦ touches_own c i s e logged own
      | inr mine ↦ ap (λ b. list_any (λ f. tx_of f == i) (c.entries s) || b) (some_change (c.changes i s) e mine)
          ∙ or_right (list_any (λ f. tx_of f == i) (c.entries s))
    ]
  where
    some_change : (ds : List (Name × Change)) (e : Entry) → Contains (as_changes i ds) e → is_some_change ds ≡ true
    some_change [] e m = absurd (contains-none e m)
    some_change (d ∷ ds) e m = refl

-- an edge of i is at a site that i touches
pub edge_site : (c : CoreState) (i : ℕ) (arc : Arc) → IsWalked c → IsLegal c → IsEdgeOf c i arc
    → (arc.label.site < length c.items) × (touches c i arc.label.site ≡ true)
edge_site c i arc w l e =
    let k = e.conflict in
    let hit : touches c i arc.label.site ≡ true = elim e.ends [
      | inl from ↦ touches_with c i arc.label.site k.p k.e k.first (k.from ∙ from.0)
      | inr to ↦ touches_with c i arc.label.site k.q k.f k.second (k.to ∙ to.0)
    ] in
    (inside arc.label.site (λ out. true≢false (sym hit ∙ untouched_outside c i arc.label.site w l out)), hit)
  where
    inside : (s : ℕ) → (length c.items ≤ s → ⊥) → s < length c.items
    inside s beyond = omega (arith, beyond)

block_grow : (xs ops : List Entry) (last : Entry) (t : Bool) (kind : Kind) (x : Name) (a b : ℕ) → t ≡ true
    → Conflicts (xs ++ ops) kind x a b → Conflicts (xs ++ cond t (ops ++ last ∷ []) []) kind x a b
block_grow xs ops last true kind x a b e k =
    subst (λ es. Conflicts es kind x a b) (append_assoc xs ops (last ∷ []))
    (in_longer (xs ++ ops) (last ∷ []) kind x a b k)
block_grow xs ops last false kind x a b e k = absurd (true≢false (sym e))

-- with no block due, a new block keeps conflicts
due_grow : (c : CoreState) (mid : State) (block : ℕ → List Entry) → ((s : ℕ) → c.due s ≡ [])
    → Grows c (record c { certifier = mid; due = block })
due_grow c mid block none label a b h = record {
  site = h.site;
  conflict = in_longer (c.entries label.site) (block label.site) label.kind label.item a b
      (subst (λ es. Conflicts es label.kind label.item a b) (append-nil (c.entries label.site))
      (subst (λ es. Conflicts (c.entries label.site ++ es) label.kind label.item a b)
      (none label.site) h.conflict));
}

pub yes-walked : (c : CoreState) (i : ℕ) (arcs : List Arc) (mid : State) → IsWalked c → IsLegal c
    → ((s : ℕ) → c.due s ≡ []) → AreEdges c i arcs → Commits c.certifier i arcs mid
    → IsWalked (record c { certifier = mid; due = committed_block c i })
yes-walked c i arcs mid w l none edges m =
    let after : CoreState = record c { certifier = mid; due = committed_block c i } in
    let g = due_grow c mid (committed_block c i) none in
    record {
      outside = w.outside;
      arcs = λ arc member. elim
          (Contains-append_cases c.certifier.arcs arcs arc
          (subst (λ (s : State). Contains s.arcs arc) m.after member)) [
            | inl was ↦ g arc.label arc.from arc.to (w.arcs arc was)
            | inr new ↦
                let e = (edges arc).0 new in
                let at = edge_site c i arc w l e in
                record {
                  site = at.0;
                  conflict =
                      block_grow (c.entries arc.label.site) (as_changes i (c.changes i arc.label.site)) (entry.Commit i)
                      (touches c i arc.label.site) arc.label.kind arc.label.item arc.from arc.to at.1 e.conflict;
                }
          ];
      walks = grown_walks c after w g
          (λ n tx walk at_n. elim (get-push_cases c.certifier.rulings (committed i) n (refused tx walk)
          (subst (λ (s : State). slice_get s.rulings n ≡ Some (refused tx walk)) m.after at_n)) [
            | inl was ↦ was
            | inr new ↦ let e = new.1 in absurd cc
          ]);
    }

pub no-walked : (c : CoreState) (i : ℕ) (arcs : List Arc) (walk : List Step) (mid : State) → IsWalked c → IsLegal c
    → ((s : ℕ) → c.due s ≡ []) → AreEdges c i arcs → Refuses c.certifier i arcs walk mid
    → IsWalked (record c { certifier = mid; due = refused_block c i })
no-walked c i arcs walk mid w l none edges m =
    let after : CoreState = record c { certifier = mid; due = refused_block c i } in
    let g = due_grow c mid (refused_block c i) none in
    let each : (arc : Arc) → Contains (c.certifier.arcs ++ arcs) arc → IsAt after arc.label arc.from arc.to =
    λ arc member. elim (Contains-append_cases c.certifier.arcs arcs arc member) [
      | inl was ↦ g arc.label arc.from arc.to (w.arcs arc was)
      | inr new ↦
          let e = (edges arc).0 new in
          let at = edge_site c i arc w l e in
          let s = arc.label.site in
          record {
            site = at.0;
            conflict =
                block_grow (c.entries s) (as_wants i (c.changes i s)) (entry.Refuse i) (touches c i s) arc.label.kind
                arc.label.item arc.from arc.to at.1
                (as_asked (c.entries s) i (c.changes i s) arc.label.kind arc.label.item arc.from arc.to e.conflict);
          }
    ] in
    record {
      outside = w.outside;
      arcs = λ arc member. g arc.label arc.from arc.to
          (w.arcs arc (subst (λ (s : State). Contains s.arcs arc) m.after member));
      walks = λ n tx steps at_n. elim (get-push_cases c.certifier.rulings (refused i walk) n (refused tx steps)
          (subst (λ (s : State). slice_get s.rulings n ≡ Some (refused tx steps)) m.after at_n)) [
            | inl was ↦ steps_grow c after g tx steps (w.walks n tx steps was)
            | inr new ↦
                let e = new.1 in
                let i_is : i ≡ tx = cc in
                let walk_is : walk ≡ steps = cc in
                subst (λ t. AreAt after t steps) i_is
                (subst (AreAt after i) walk_is (along after (c.certifier.arcs ++ arcs) each i walk m.cycle.steps))
          ];
    }
  where
    along : (d : CoreState) (all : List Arc) → ((arc : Arc) → Contains all arc → IsAt d arc.label arc.from arc.to)
        → (a : ℕ) (steps : List Step) → Walks all a steps → AreAt d a steps
    along d all each a [] h = tt
    along d all each a (step ∷ steps) h = (each _ h.0, along d all each step.to steps h.1)

pub install-walked : (c : CoreState) (k : ℕ) → k < length c.items → IsWalked c
    → IsWalked (record (with_entries c (only_at k (c.due k))) { due = changed_at k [] c.due })
install-walked c k lt w =
    let after : CoreState = record (with_entries c (only_at k (c.due k))) { due = changed_at k [] c.due } in
    let g : Grows c after = λ label a b h. record {
      site = h.site;
      conflict = subst (λ es. Conflicts es label.kind label.item a b) (sym (moved_block c.entries c.due k label.site))
          h.conflict;
    } in
    record {
      outside = λ s out. sym (unchanged_there c k s (c.due k) (λ same. omega (arith, same))) ∙ w.outside s out;
      arcs = λ arc m. g arc.label arc.from arc.to (w.arcs arc m);
      walks = grown_walks c after w g (λ n tx walk e. e);
    }

pub withdraw-walked : (c : CoreState) (i : ℕ) → IsWalked c → IsLegal c
    → IsWalked (record (with_entries c (withdrawn_block c i)) { certifier = with_withdrawn c.certifier i })
withdraw-walked c i w l =
    let after : CoreState = record (with_entries c (withdrawn_block c i)) {
      certifier =
          with_withdrawn c.certifier i;
    } in
    let g : Grows c after = λ label a b h. let e = entries_grow c (withdrawn_block c i) label a b h in
    record { site = e.site; conflict = e.conflict } in
    record {
      outside = λ s out. ap (λ b. c.entries s ++ cond b (entry.Withdraw i ∷ []) []) (untouched_outside c i s w l out)
          ∙ append-nil (c.entries s) ∙ w.outside s out;
      arcs = λ arc m. g arc.label arc.from arc.to (w.arcs arc m);
      walks = grown_walks c after w g
          (λ n tx walk at_n. elim (get-push_cases c.certifier.rulings (withdrawn i) n (refused tx walk) at_n)
          [ inl was ↦ was | inr new ↦ let e = new.1 in absurd cc ]);
    }

pub read-walked : (c : CoreState) (s : ℕ) (e : Entry) → s < length c.items → IsWalked c
    → IsWalked (with_entries c (only_at s (e ∷ [])))
read-walked c s e lt w =
    let g = entries_grow c (only_at s (e ∷ [])) in
    record {
      outside = λ t out. sym (unchanged_there c s t (e ∷ []) (λ same. omega (arith, same))) ∙ w.outside t out;
      arcs = λ arc m. g arc.label arc.from arc.to (w.arcs arc m);
      walks = grown_walks c (with_entries c (only_at s (e ∷ []))) w g (λ n tx walk at_n. at_n);
    }

-- the same logs, with no more edges and the same decisions
pub same-walked : (c : CoreState) (mid : State) (changes : ℕ → ℕ → List (Name × Change)) (step : Option OpenStep)
    → IsWalked c → ((arc : Arc) → Contains mid.arcs arc → Contains c.certifier.arcs arc)
    → mid.rulings ≡ c.certifier.rulings
    → IsWalked (record c { certifier = mid; changes = changes; step = step })
same-walked c mid changes step w fewer same =
    let after : CoreState = record c { certifier = mid; changes = changes; step = step } in
    let g : Grows c after = λ label a b h. record { site = h.site; conflict = h.conflict } in
    record {
      outside = w.outside;
      arcs = λ arc m. g arc.label arc.from arc.to (w.arcs arc (fewer arc m));
      walks = grown_walks c after w g (λ n tx walk at_n. subst (λ rs. slice_get rs n ≡ Some (refused tx walk)) same
          at_n);
    }

pub fresh-walked : (items : List (List Holding)) → IsWalked (fresh items)
fresh-walked items = record {
  outside = λ s out. refl;
  arcs = λ arc m. absurd (contains-none arc m);
  walks =
      λ n tx walk at_n. absurd cc;
}

pub site_of_item : (c : CoreState) (s : ℕ) (x : Name) → Contains (names (items_at c s)) x → s < length c.items
site_of_item c s x m =
    inside s (λ out. contains-none x (subst (λ o. Contains (names (items_in o)) x) (slice_get_past c.items s out) m))
  where
    inside : (s : ℕ) → (length c.items ≤ s → ⊥) → s < length c.items
    inside s beyond = omega (arith, beyond)
