-- The calls of a worker, and those of all.
use Rattle.std.proofs.Common.{◌≡◌, ℕ, ◌-◌, Some, List, [], ◌∷◌, ◌++◌, map, arith, refl, sym, ap, subst}
use Rattle.std.specs.Prelude.{slice_get}
use Rattle.std.specs.List.{AllZip, flat_map}
use Rattle.std.specs.List.Sorted.{IsPermutation}
use Rattle.std.proofs.lemmas.List.Sorted.{IsPermutation-refl, IsPermutation-trans}
use Rattle.sgt_workers.specs.Answers.{Runs, JobsRise, IsShare, IsReport, AreShared}
use Rattle.sgt_workers.specs.declared.ticket.Done.{Done}
use Rattle.sgt_workers.specs.declared.worker.Report.{Report}
use Rattle.sgt_workers.proofs.Lists.{zip_map}

pub runs_push : {S C : Type 0} (does : S → ℕ → C → Done → S → Type 0) (scripts : List C) (s t u : S) (d : Done)
    (ds : List Done) → Runs does scripts s ds t → (c : C) × (slice_get scripts (d.job - 1) ≡ Some c)
    × does t d.job c d u → Runs does scripts s (ds ++ d ∷ []) u
runs_push {S} {C} does scripts s t u d [] e h =
    let at : does s d.job h.0 d u = subst (λ x. does x d.job h.0 d u) (sym e) h.2 in
    (h.0, u, h.1, at, refl)
runs_push does scripts s t u d (x ∷ ds) r h = (r.0, r.1, r.2, r.3, runs_push does scripts r.1 t u d ds r.4 h)

-- a share of a state: the Dones of its worker, and the state that it left
abbrev pub share_of : {S : Type 0} → Report S → List Done × S
share_of r = (r.dones.items, r.state)

pub states_of_shares : {S : Type 0} (reports : List (Report S))
    → map (λ (share : List Done × S). share.1) (map share_of reports) ≡ map (λ (r : Report S). r.state) reports
states_of_shares [] = refl
states_of_shares (r ∷ rs) = ap (λ l. r.state ∷ l) (states_of_shares rs)

pub dones_of_shares : {S : Type 0} (reports : List (Report S))
    → flat_map (λ (share : List Done × S). share.0) (map share_of reports) ≡ flat_map
    (λ (r : Report S). r.dones.items) reports
dones_of_shares [] = refl
dones_of_shares (r ∷ rs) = ap (λ l. r.dones.items ++ l) (dones_of_shares rs)

module _ {S C : Type 0} (does : S → ℕ → C → Done → S → Type 0) (scripts : List C) where
  pub reports_share : (states : List S) (reports : List (Report S)) → AllZip (IsReport does scripts) states reports
      → AreShared does scripts states (flat_map (λ r. r.dones.items) reports) (map (λ r. r.state) reports)
  reports_share states reports z = (
    map share_of reports,
    zip_map (λ s (share : List Done × S). IsShare does scripts s share.0 share.1) share_of states reports z,
    states_of_shares reports,
    subst (λ l. IsPermutation l (flat_map (λ r. r.dones.items) reports)) (sym (dones_of_shares reports))
        (IsPermutation-refl _),
  )

  pub shared_in_order : (states after : List S) (dones told : List Done) → AreShared does scripts states dones after
      → IsPermutation dones told → AreShared does scripts states told after
  shared_in_order states after dones told h same = (h.0, h.1, h.2, IsPermutation-trans _ _ _ h.3 same)

  -- without a Done each state stays as it is
  abbrev idle : S → List Done × S
  idle s = ([], s)

  idle_states : (states : List S) → map (λ (share : List Done × S). share.1) (map idle states) ≡ states
  idle_states [] = refl
  idle_states (s ∷ ss) = ap (λ l. s ∷ l) (idle_states ss)

  idle_dones : (states : List S) → flat_map (λ (share : List Done × S). share.0) (map idle states) ≡ []
  idle_dones [] = refl
  idle_dones (s ∷ ss) = idle_dones ss

  no_rise : JobsRise []
  no_rise = λ i j d below within. absurd (omega (arith, within))

  idle_zip : (states : List S)
      → AllZip (λ s (share : List Done × S). IsShare does scripts s share.0 share.1) states (map idle states)
  idle_zip [] = tt
  idle_zip (s ∷ ss) = ((no_rise, refl), idle_zip ss)

  pub none_share : (states : List S) → AreShared does scripts states [] states
  none_share states = (
    map idle states,
    idle_zip states,
    idle_states states,
    subst (λ l. IsPermutation l []) (sym (idle_dones states)) (IsPermutation-refl []),
  )
