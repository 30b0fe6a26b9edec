-- The same events with the same replies lead from states that are alike to states that are alike.
use Rattle.std.proofs.Common.{◌≡◌, ℕ, Bool, true, false, cond, List, [], ◌∷◌, ◌++◌, map, refl, sym, ◌∙◌, inl, inr, Contains, Option, Some, None, subst, ap, ap₂}
use Rattle.std.specs.Prelude.{◌↔◌, filter, not}
use Rattle.std.proofs.lemmas.Bool.{cases_Bool}
use Rattle.std.proofs.lemmas.List.Elements.{Contains-append_cases, Contains-append_left, Contains-append_right}
use Rattle.std.proofs.lemmas.Option.{same_Some}
use Rattle.sgt_names.specs.Name.{Name}
use Rattle.sgt_names.specs.declared.entry.Change.{Change}
use Rattle.sgt_names.specs.declared.entry.Entry.TheVariants as entry
use Rattle.sgt_names.specs.declared.entry.Holding.{Holding}
use Rattle.sgt_order.specs.Graph.{IsPlaced}
use Rattle.sgt_certifier.specs.Certifier.{State, Arc, Ruling, Joins, committed, refused, withdrawn, with_finished, with_install}
use Rattle.sgt_certifier.proofs.Members.{cons_here}
use Rattle.sgt_notation.specs.declared.event.Event.{Event}
use Rattle.sgt_notation.specs.declared.event.Event.TheVariants.{Begin, Read, Put, Add, Gather, Decide, Install, Commit, Withdraw, Close}
use Rattle.sgt_core_model.specs.declared.reply.Reply.{Reply}
use Rattle.sgt_core_model.specs.declared.reply.Reply.TheVariants.{Begun, Value, Kept, Gathered, Yes, No, Installed, Withdrawn, Closed, Fault}
use Rattle.sgt_core_model.specs.declared.reply.CoreFault.TheVariants as fault
use Rattle.sgt_core_model.specs.Core.{CoreState, fresh, IsEdgeOf, AreEdges, with_entries, only_at, changed_at, look, touched, committed_block, refused_block, is_written, closed_if_written, is_committed, noted, installed}
use Rattle.sgt_core_model.specs.Step.{Reads, CommitsAt, RefusesAt, Does, AfterMemory, Serves, ServesAll, parts_of_commit, replies_of_commit, MayStep, Run}
use Rattle.sgt_core_model.specs.Runs.{without_walk, AreAlike}
use Rattle.sgt_core_model.proofs.Reached.{reaches_alike}
use Rattle.sgt_names.proofs.Elements.{map-push, contains-later}

-- ---- lists

filter_alike : (p q : ℕ → Bool) (xs : List ℕ) → ((x : ℕ) → Contains xs x → p x ≡ q x) → filter p xs ≡ filter q xs
filter_alike p q [] h = refl
filter_alike p q (x ∷ xs) h =
    ap (λ b. cond b (x ∷ filter p xs) (filter p xs)) (h x (cons_here x xs))
    ∙ ap (λ ys. cond (q x) (x ∷ ys) ys) (filter_alike p q xs (λ y m. h y (contains-later x xs y m)))

alike_tests : (a b : Bool) → (a ≡ true → b ≡ true) → (b ≡ true → a ≡ true) → a ≡ b
alike_tests true b f g = sym (f refl)
alike_tests a true f g = g refl
alike_tests false false f g = refl

rulings_more : (xs ys : List Ruling) (q r : Ruling) → map without_walk xs ≡ map without_walk ys
    → without_walk q ≡ without_walk r
    → map without_walk (xs ++ q ∷ []) ≡ map without_walk (ys ++ r ∷ [])
rulings_more xs ys q r all last = map-push without_walk xs q
    ∙ (ap₂ (λ (zs : List Ruling) (z : Ruling). zs ++ z ∷ []) all last ∙ sym (map-push without_walk ys r))

-- the two lists have the same members
abbrev HaveSame : List Arc → List Arc → Type 0
HaveSame xs ys = (arc : Arc) → Contains xs arc ↔ Contains ys arc

more_same : (xs ys es fs : List Arc) → HaveSame xs ys → HaveSame es fs → HaveSame (xs ++ es) (ys ++ fs)
more_same xs ys es fs h k arc = (
  λ m. elim (Contains-append_cases xs es arc m) [
    | inl old ↦ Contains-append_left ys fs arc ((h arc).0 old)
    | inr new ↦ Contains-append_right ys fs arc ((k arc).0 new)
  ],
  λ m. elim (Contains-append_cases ys fs arc m) [
    | inl old ↦ Contains-append_left xs es arc ((h arc).1 old)
    | inr new ↦ Contains-append_right xs es arc ((k arc).1 new)
  ],
)

-- over the same edges an order is placed in one way
one_place : (xs ys : List Arc) (order : List ℕ) (i : ℕ) (ps qs : List ℕ) → HaveSame xs ys
    → IsPlaced (Joins xs) order i ps → IsPlaced (Joins ys) order i qs → ps ≡ qs
one_place xs ys order i ps qs h p q =
    let there : (a b : ℕ) → Joins xs a b → Joins ys a b = λ a b j. (j.0, (h _).0 j.1) in
    let back : (a b : ℕ) → Joins ys a b → Joins xs a b = λ a b j. (j.0, (h _).1 j.1) in
    let same : (a : ℕ) → Contains order a → p.0 a ≡ q.0 a = λ a m. alike_tests (p.0 a) (q.0 a)
    (λ hit. (q.1 a m).1 (reaches_alike (Joins xs) (Joins ys) there i a ((p.1 a m).0 hit)))
    (λ hit. (p.1 a m).1 (reaches_alike (Joins ys) (Joins xs) back i a ((q.1 a m).0 hit))) in
    p.2 ∙ (ap₂ (λ (front back : List ℕ). front ++ i ∷ back) (filter_alike (λ a. not (p.0 a)) (λ a. not (q.0 a)) order
    (λ a m. ap not (same a m))) (filter_alike p.0 q.0 order same) ∙ sym q.2)

-- ---- states

-- the state with these edges and decisions
abbrev varied : CoreState → List Arc → List Ruling → CoreState
varied c arcs rulings = record c { certifier = record c.certifier { arcs = arcs; rulings = rulings } }

by_parts : (c d : CoreState) → AreAlike c d → d ≡ varied c d.certifier.arcs d.certifier.rulings
by_parts c d h = h.same ∙ ap (λ (k : State). record c { certifier = k }) h.certifier

alike_at : (new other x y : CoreState) → new ≡ x → other ≡ y → AreAlike x y → AreAlike new other
alike_at new other x y p q h =
    subst (λ (d : CoreState). AreAlike new d) (sym q) (subst (λ (c : CoreState). AreAlike c y) (sym p) h)

-- the step is closed in both, or in neither
module _ (c : CoreState) (arcs : List Arc) (rulings : List Ruling) (edges : HaveSame c.certifier.arcs arcs)
    (decisions : map without_walk c.certifier.rulings ≡ map without_walk rulings) where
  abbrev near : CoreState
  near = varied c arcs rulings

  alike : AreAlike c near
  alike = record { same = refl; certifier = refl; edges = edges; rulings = decisions }

  closed_alike : (i : ℕ) → AreAlike (closed_if_written c i) (closed_if_written near i)
  closed_alike i =
      let closed : CoreState → CoreState = λ (e : CoreState). record e {
        certifier = with_finished e.certifier i;
        step = None;
        due = λ s. [];
      } in
      elim (cases_Bool (is_written c)) [
        | inl hit ↦ subst (λ b. AreAlike (cond b (closed c) c) (cond b (closed near) near)) (sym hit)
            (record { same = refl; certifier = refl; edges = edges; rulings = decisions })
        | inr miss ↦ subst (λ b. AreAlike (cond b (closed c) c) (cond b (closed near) near)) (sym miss) alike
      ]

close_alike : (c d : CoreState) (i : ℕ) → AreAlike c d → AreAlike (closed_if_written c i) (closed_if_written d i)
close_alike c d i h =
    let is = by_parts c d h in
    subst (λ (e : CoreState). AreAlike (closed_if_written c i) (closed_if_written e i)) (sym is)
    (closed_alike c d.certifier.arcs d.certifier.rulings h.edges h.rulings i)

-- ---- steps

module _ (c : CoreState) (arcs : List Arc) (rulings : List Ruling) (edges : HaveSame c.certifier.arcs arcs)
    (decisions : map without_walk c.certifier.rulings ≡ map without_walk rulings) where
  abbrev d : CoreState
  d = varied c arcs rulings

  both : AreAlike c d
  both = record { same = refl; certifier = refl; edges = edges; rulings = decisions }

  edge_there : (i : ℕ) (arc : Arc) → IsEdgeOf c i arc → IsEdgeOf d i arc
  edge_there i arc e = record { ends = e.ends; conflict = e.conflict }

  edge_back : (i : ℕ) (arc : Arc) → IsEdgeOf d i arc → IsEdgeOf c i arc
  edge_back i arc e = record { ends = e.ends; conflict = e.conflict }

  new_same : (i : ℕ) (es fs : List Arc) → AreEdges c i es → AreEdges d i fs → HaveSame es fs
  new_same i es fs h k arc =
      (λ m. (k arc).1 (edge_there i arc ((h arc).0 m)), λ m. (h arc).1 (edge_back i arc ((k arc).0 m)))

  read_alike : (tx s : ℕ) (x : Name) (v : ℕ) (found : Option ℕ) (new other : CoreState) → Reads c tx s x v found new
      → Reads d tx s x v found other → AreAlike new other
  read_alike tx s x v (Some u) new other p q = alike_at new other c d p.1 q.1 both
  read_alike tx s x v None new other p q =
      let same = same_Some q.0 p.0 (sym q.1 ∙ p.1) in
      let read : CoreState → ℕ
      → CoreState = λ (e : CoreState) (u : ℕ). with_entries e (only_at s (entry.Read tx x u ∷ [])) in
      alike_at new other (read c p.0) (read d p.0) p.2 (q.2
      ∙ ap (read d) same) (record { same = refl; certifier = refl; edges = edges; rulings = decisions })

  commit_alike : (i : ℕ) (new other : CoreState) → CommitsAt c i new → CommitsAt d i other → AreAlike new other
  commit_alike i new other p q =
      let es = c.certifier.arcs ++ p.arcs in
      let fs = arcs ++ q.arcs in
      let all = more_same c.certifier.arcs arcs p.arcs q.arcs edges (new_same i p.arcs q.arcs p.edges q.edges) in
      let one = one_place es fs c.certifier.order i p.commits.places q.commits.places all p.commits.placed
      q.commits.placed in
      let due = committed_block c i in
      let first : State = record c.certifier {
        order = p.commits.places;
        arcs = es;
        step = Some i;
        rulings =
            c.certifier.rulings ++ committed i ∷ [];
      } in
      let second : State = record c.certifier {
        order = p.commits.places;
        arcs = fs;
        step = Some i;
        rulings =
            rulings ++ committed i ∷ [];
      } in
      let other_is : q.certifier ≡ second = q.commits.after
      ∙ ap (λ (ps : List ℕ). record c.certifier {
        order = ps;
        arcs = fs;
        step = Some i;
        rulings =
            rulings ++ committed i ∷ [];
      }) (sym one) in
      let x : CoreState = record c { certifier = first; due = due } in
      let y : CoreState = record c { certifier = second; due = due } in
      alike_at new other (closed_if_written x i) (closed_if_written y i) (p.after
      ∙ ap (λ (k : State). closed_if_written (record c { certifier = k; due = due }) i) p.commits.after)
      (q.after ∙ ap (λ (k : State). closed_if_written (record c { certifier = k; due = due }) i) other_is)
      (close_alike x y i (record {
        same = refl;
        certifier = refl;
        edges = all;
        rulings =
            rulings_more c.certifier.rulings rulings (committed i) (committed i) decisions refl;
      }))

  refuse_alike : (i : ℕ) (new other : CoreState) → RefusesAt c i new → RefusesAt d i other → AreAlike new other
  refuse_alike i new other p q =
      let due = refused_block c i in
      let first : State =
      record c.certifier { step = Some i; rulings = c.certifier.rulings ++ refused i p.walk ∷ [] } in
      let second : State = record c.certifier {
        arcs = arcs;
        step = Some i;
        rulings =
            rulings ++ refused i q.walk ∷ [];
      } in
      let x : CoreState = record c { certifier = first; due = due } in
      let y : CoreState = record c { certifier = second; due = due } in
      alike_at new other (closed_if_written x i) (closed_if_written y i) (p.after
      ∙ ap (λ (k : State). closed_if_written (record c { certifier = k; due = due }) i) p.refuses.after)
      (q.after ∙ ap (λ (k : State). closed_if_written (record c { certifier = k; due = due }) i) q.refuses.after)
      (close_alike x y i (record {
        same = refl;
        certifier = refl;
        edges = edges;
        rulings =
            rulings_more c.certifier.rulings rulings (refused i p.walk) (refused i q.walk) decisions refl;
      }))

  install_alike : (i s : ℕ) (new other : CoreState) → new ≡ installed c i s → other ≡ installed d i s
      → AreAlike new other
  install_alike i s new other p q =
      let wrote : State → CoreState = λ (k : State). record (with_entries c (only_at s (c.due s))) {
        certifier =
            k;
        due = changed_at s [] c.due;
      } in
      let names = map (λ (e : Name × Change). e.0) (c.changes i s) in
      let by_commit : (b : Bool)
      → AreAlike (wrote (cond b (with_install c.certifier i s names) c.certifier))
      (wrote (cond b (with_install d.certifier i s names) d.certifier)) = λ b.
      elim (cases_Bool b) [
        | inl hit ↦ subst (λ a. AreAlike (wrote (cond a (with_install c.certifier i s names) c.certifier))
            (wrote (cond a (with_install d.certifier i s names) d.certifier))) (sym hit)
            (record { same = refl; certifier = refl; edges = edges; rulings = decisions })
        | inr miss ↦ subst (λ a. AreAlike (wrote (cond a (with_install c.certifier i s names) c.certifier))
            (wrote (cond a (with_install d.certifier i s names) d.certifier))) (sym miss)
            (record { same = refl; certifier = refl; edges = edges; rulings = decisions })
      ] in
      alike_at new other (closed_if_written (wrote (noted c i s)) i) (closed_if_written (wrote (noted d i s)) i) p q
      (close_alike (wrote (noted c i s)) (wrote (noted d i s)) i (by_commit (is_committed c i)))

  does_alike : (event : Event) (reply : Reply) (new other : CoreState) → Does c event reply new
      → Does d event reply other → AreAlike new other
  does_alike Begin (Begun tx) new other p q =
      alike_at new other _ _ p.1 q.1 (record { same = refl; certifier = refl; edges = edges; rulings = decisions })
  does_alike (Read tx s x) (Value v) new other p q = read_alike tx s x v (look c tx s x) new other p q
  does_alike (Put tx s x v) Kept new other p q =
      alike_at new other _ _ p q (record { same = refl; certifier = refl; edges = edges; rulings = decisions })
  does_alike (Add tx s x v) Kept new other p q =
      alike_at new other _ _ p q (record { same = refl; certifier = refl; edges = edges; rulings = decisions })
  does_alike (Gather tx s) Gathered new other p q =
      alike_at new other _ _ p q (record { same = refl; certifier = refl; edges = edges; rulings = decisions })
  does_alike (Decide tx) Yes new other p q = commit_alike tx new other p q
  does_alike (Decide tx) No new other p q = refuse_alike tx new other p q
  does_alike (Install tx s) Installed new other p q = install_alike tx s new other p q
  does_alike (Withdraw tx) Withdrawn new other p q =
      alike_at new other _ _ p q (record {
        same = refl;
        certifier = refl;
        edges = edges;
        rulings =
            rulings_more c.certifier.rulings rulings (withdrawn tx) (withdrawn tx) decisions refl;
      })
  does_alike Close (Closed ranks) new other p q =
      alike_at new other _ _ p.1 q.1 (record {
        same = refl;
        certifier = refl;
        edges = λ arc. (λ m. m, λ m. m);
        rulings = decisions;
      })
  does_alike _ _ new other p q = absurd p

  memory_alike : (event : Event) (new other : CoreState) → AfterMemory c event new → AfterMemory d event other
      → AreAlike new other
  memory_alike (Gather tx s) new other p q =
      alike_at new other _ _ p q (record { same = refl; certifier = refl; edges = edges; rulings = decisions })
  memory_alike (Decide tx) new other p q =
      alike_at new other _ _ p q (record { same = refl; certifier = refl; edges = edges; rulings = decisions })
  memory_alike (Commit tx) new other p q =
      alike_at new other _ _ p q (record { same = refl; certifier = refl; edges = edges; rulings = decisions })
  memory_alike (Install tx s) new other p q = absurd p
  memory_alike (Read tx s x) new other p q = alike_at new other c d p.1 q.1 both
  memory_alike event new other p q = alike_at new other c d p q both

serves_alike : (c d : CoreState) (event : Event) (reply : Reply) (new other : CoreState) → AreAlike c d
    → Serves c event reply new → Serves d event reply other → AreAlike new other
serves_alike c d event reply new other h p q =
    does_alike c d.certifier.arcs d.certifier.rulings h.edges h.rulings event reply new other p.1
    (subst (λ (e : CoreState). Does e event reply other) (by_parts c d h) q.1)

all_alike : (c d : CoreState) (events : List Event) (replies : List Reply) (new other : CoreState) → AreAlike c d
    → ServesAll c events replies new → ServesAll d events replies other → AreAlike new other
all_alike c d [] [] new other h p q = alike_at new other c d p q h
all_alike c d (event ∷ events) (reply ∷ replies) new other h p q =
    all_alike p.0 q.0 events replies new other (serves_alike c d event reply p.0 q.0 h p.1 q.1) p.2 q.2
all_alike c d _ _ new other h p q = absurd p

step_alike : (c d : CoreState) (event : Event) (reply : Reply) (new other : CoreState) → AreAlike c d
    → MayStep c event reply new → MayStep d event reply other → AreAlike new other
step_alike c d event (Fault fault.Memory) new other h p q =
    memory_alike c d.certifier.arcs d.certifier.rulings h.edges h.rulings event new other p.1
    (subst (λ (e : CoreState). AfterMemory e event other) (by_parts c d h) q.1)
step_alike c d event (Fault f) new other h p q = alike_at new other c d p.1 q.1 h
step_alike c d (Commit tx) reply new other h p q =
    let sites = touched c tx in
    let same : touched d tx ≡ sites = ap (λ (e : CoreState). touched e tx) (by_parts c d h) in
    let served = subst (λ (ns : List ℕ). ServesAll d (parts_of_commit ns tx) (replies_of_commit ns reply) other) same
    q.1 in
    all_alike c d _ _ new other h p.1 served
step_alike c d event reply new other h p q = serves_alike c d event reply new other h p q

run_alike : (c d : CoreState) (events : List Event) (replies : List Reply) (new other : CoreState) → AreAlike c d
    → Run c events replies new → Run d events replies other → AreAlike new other
run_alike c d [] [] new other h p q = alike_at new other c d p q h
run_alike c d (event ∷ events) (reply ∷ replies) new other h p q =
    run_alike p.0 q.0 events replies new other (step_alike c d event reply p.0 q.0 h p.1 q.1) p.2 q.2
run_alike c d _ _ new other h p q = absurd p

pub runs_alike : (items : List (List Holding)) (events : List Event) (replies : List Reply) (new other : CoreState)
    → Run (fresh items) events replies new → Run (fresh items) events replies other
    → AreAlike new other
runs_alike items events replies new other p q =
    run_alike (fresh items) (fresh items) events replies new other (record {
      same = refl;
      certifier = refl;
      edges =
          λ arc. (λ m. m, λ m. m);
      rulings = refl;
    }) p q
