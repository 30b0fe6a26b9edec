-- What holds of the labels of all edges that the decisions were handed holds of the walks of the refusals.
use Rattle.std.proofs.Common.{◌<◌, ℕ, List, [], ◌∷◌, ◌++◌, map, sym, subst, All}
use Rattle.std.specs.Prelude.{filter, ◌==◌}
use Rattle.std.specs.List.{AllByRecursion}
use Rattle.std.proofs.lemmas.List.Elements.{All-append, All-cons, All-filter, All-from_recursion, All-head, All-nil, All-push, All-tail}
use Rattle.sgt_names.specs.declared.entry.Label.{Label}
use Rattle.sgt_names.proofs.Lists.{All-from_map, All-map, All-weaken, All_in}
use Rattle.sgt_bundle.specs.Parts.{HasStepsWithin}
use Rattle.sgt_bundle.specs.declared.certificate.Step.{Step}
use Rattle.sgt_edges.specs.declared.edge.Edge.{Edge}
use Rattle.sgt_certifier.specs.Certifier.{State, Arc, Ruling, committed, refused, withdrawn, opening, ranked, Walks}
use Rattle.sgt_certifier.specs.History.{arcs_of, tx_under, Serves, RunsFrom, Replays}
use Rattle.sgt_certifier.specs.declared.call.Call.{Call}
use Rattle.sgt_certifier.specs.declared.call.Call.TheVariants as call
use Rattle.sgt_certifier.specs.declared.call.Decided.TheVariants.{Committed, Refused}
use Rattle.sgt_service_settle.specs.Told.{handed_by, handed_in}
use Rattle.sgt_service_settle.specs.declared.handed.Handed.{Handed}
use Rattle.sgt_service_settle.specs.private.Words.{with_number}

module _ (P : Label → Type 0) where
  -- it holds of the steps of a refusal's walk
  abbrev pub HasWalk : Ruling → Type 0
  HasWalk (committed tx) = Unit {0}
  HasWalk (refused tx walk) = All (λ step. P step.label) walk
  HasWalk (withdrawn tx) = Unit {0}

  -- of the edges of the window, and of all walks
  record Holds (s : State) : Type 0 where
    arcs : All (λ arc. P arc.label) s.arcs
    walks : All HasWalk s.rulings

  arcs-hold : (s : State) (edges : List Edge) → All (λ e. P e.label) edges → All (λ arc. P arc.label) (arcs_of s edges)
  arcs-hold s edges all =
      All-from_map (λ (arc : Arc). P arc.label) (λ (e : Edge). record {
        from = tx_under s e.from;
        to =
            tx_under s e.to;
        label = e.label;
      })
      (filter (λ (e : Edge). e.from.generation == s.generation) edges)
      (All-filter (λ (e : Edge). e.from.generation == s.generation) (λ (e : Edge). P e.label) edges all)

  walk-holds : (arcs : List Arc) (a : ℕ) (walk : List Step) → All (λ arc. P arc.label) arcs → Walks arcs a walk
      → AllByRecursion (λ step. P step.label) walk
  walk-holds arcs a [] all walks = tt
  walk-holds arcs a (step ∷ steps) all walks = (
    All_in (λ (arc : Arc). P arc.label) arcs (record { from = a; to = step.to; label = step.label }) all walks.0,
    walk-holds arcs step.to steps all walks.1,
  )

  edges-hold : (edges : List Edge) (n : ℕ) → All (λ (h : Handed). P h.edge.label) (map (with_number n) edges)
      → All (λ (e : Edge). P e.label) edges
  edges-hold edges n all = All-map (λ (h : Handed). P h.edge.label) (with_number n) edges all

  step-holds : (old : State) (c : Call) (new : State) → Serves old c new
      → All (λ (h : Handed). P h.edge.label) (handed_by c) → Holds old → Holds new
  step-holds old (call.Begin tx h) new serves all holds =
      subst Holds (sym serves.1.2) (record { arcs = holds.arcs; walks = holds.walks })
  step-holds old (call.Decide h edges (Committed n)) new serves all holds =
      subst Holds (sym serves.1.1.after) (record {
        arcs = All-append (λ (arc : Arc). P arc.label) old.arcs (arcs_of old edges) holds.arcs
            (arcs-hold old edges (edges-hold edges n all));
        walks = All-push HasWalk old.rulings (committed (tx_under old h)) holds.walks tt;
      })
  step-holds old (call.Decide h edges (Refused n walk)) new serves all holds =
      let arcs = All-append (λ (arc : Arc). P arc.label) old.arcs (arcs_of old edges) holds.arcs
      (arcs-hold old edges (edges-hold edges n all)) in
      subst Holds (sym serves.1.1.after) (record {
        arcs = holds.arcs;
        walks = All-push HasWalk old.rulings (refused (tx_under old h) walk) holds.walks
            (All-from_recursion (λ (step : Step). P step.label) walk
            (walk-holds (old.arcs ++ arcs_of old edges) (tx_under old h) walk arcs serves.1.1.cycle.steps));
      })
  step-holds old (call.Finish tx) new serves all holds =
      subst Holds (sym serves.1) (record { arcs = holds.arcs; walks = holds.walks })
  step-holds old (call.Withdraw h n) new serves all holds =
      subst Holds (sym serves.1.1) (record {
        arcs = holds.arcs;
        walks =
            All-push HasWalk old.rulings (withdrawn (tx_under old h)) holds.walks tt;
      })
  step-holds old (call.Close n) new serves all holds =
      subst Holds (sym serves.1.1) (record { arcs = All-nil (λ (arc : Arc). P arc.label); walks = holds.walks })
  step-holds old (call.Installed tx site items) new serves all holds =
      subst Holds (sym serves.1) (record { arcs = holds.arcs; walks = holds.walks })

  all-left : {A : Type 0} (Q : A → Type 0) (xs ys : List A) → All Q (xs ++ ys) → All Q xs
  all-left Q [] ys all = All-nil Q
  all-left Q (x ∷ xs) ys all =
      All-cons Q x xs (All-head Q x (xs ++ ys) all) (all-left Q xs ys (All-tail Q x (xs ++ ys) all))

  all-right : {A : Type 0} (Q : A → Type 0) (xs ys : List A) → All Q (xs ++ ys) → All Q ys
  all-right Q [] ys all = all
  all-right Q (x ∷ xs) ys all = all-right Q xs ys (All-tail Q x (xs ++ ys) all)

  run-holds : (old : State) (cs : List Call) (new : State) → RunsFrom old cs new
      → All (λ (h : Handed). P h.edge.label) (handed_in cs) → Holds old → Holds new
  run-holds old [] new runs all holds = subst Holds (sym runs) holds
  run-holds old (c ∷ cs) new runs all holds =
      let Q : Handed → Type 0 = λ h. P h.edge.label in
      run-holds runs.0 cs new runs.2 (all-right Q (handed_by c) (handed_in cs) all)
      (step-holds old c runs.0 runs.1 (all-left Q (handed_by c) (handed_in cs) all) holds)

  pub walks-hold : (history : List Call) (s : State) → Replays history s
      → All (λ (h : Handed). P h.edge.label) (handed_in history) → All HasWalk s.rulings
  walks-hold history s replays all =
      (run-holds opening history s replays all (record {
        arcs = All-nil (λ (arc : Arc). P arc.label);
        walks =
            All-nil HasWalk;
      })).walks

-- so walks go over sites that are there
pub steps-within : (count : ℕ) (serials : List ℕ) (rs : List Ruling) → All (HasWalk (λ label. label.site < count)) rs
    → All (HasStepsWithin count) (map (ranked serials) rs)
steps-within count serials rs all =
    All-from_map (HasStepsWithin count) (ranked serials) rs
    (All-weaken (HasWalk (λ label. label.site < count)) (λ r. HasStepsWithin count (ranked serials r)) rs has all)
  where
    has : (r : Ruling) → HasWalk (λ label. label.site < count) r → HasStepsWithin count (ranked serials r)
    has (committed tx) h = tt
    has (refused tx walk) h = h
    has (withdrawn tx) h = tt
