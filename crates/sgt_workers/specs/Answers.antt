-- What a pool answers.
use Rattle.std.specs.Prelude.{◌≡◌, ℕ, ◌-◌, ◌<◌, ◌≤◌, List, [], ◌∷◌, Some, slice_get, map, ⊤}
use Rattle.std.specs.List.{AllPairs, AllZip, flat_map}
use Rattle.std.specs.List.Sorted.{IsPermutation}
use Rattle.sgt_workers.specs.declared.fault.PoolFail.{PoolFail}
use Rattle.sgt_workers.specs.declared.fault.PoolFail.TheVariants.{Work, Pool}
use Rattle.sgt_workers.specs.declared.fault.PoolFault.TheVariants.{Memory}
use Rattle.sgt_workers.specs.declared.ticket.Done.{Done}
use Rattle.sgt_workers.specs.declared.worker.Report.{Report}

abbrev pub jobs_of : List Done → List ℕ
jobs_of = map (λ d. d.job)

-- each job is above those before it
abbrev pub JobsRise : List Done → Type 0
JobsRise = AllPairs (λ d e. d.job < e.job)

-- a number of one of `count` jobs
abbrev pub IsJob : ℕ → ℕ → Type 0
IsJob count n = (0 < n) × (n ≤ count)

-- a right Done of the job that it names, whose script is the one of this number, from 1
abbrev pub IsAnswer : {C : Type 0} → (ℕ → C → Done → Type 0) → List C → Done → Type 0
IsAnswer {C} answers scripts d = (0 < d.job)
    × ((c : C) × (slice_get scripts (d.job - 1) ≡ Some c) × answers d.job c d)

-- one call for each of these Dones, in this order, leads from the state `s` to `t`
abbrev pub Runs : {S C : Type 0} → (S → ℕ → C → Done → S → Type 0) → List C → S → List Done → S
    → Type 0
Runs does scripts s [] t = s ≡ t
Runs {S} {C} does scripts s (d ∷ ds) t =
    (c : C) × (u : S) × (slice_get scripts (d.job - 1) ≡ Some c) × does s d.job c d u
    × Runs does scripts u ds t

-- Dones that go up by number, and lead from the state `s` to `t`
abbrev pub IsShare : {S C : Type 0} → (S → ℕ → C → Done → S → Type 0) → List C → S → List Done → S
    → Type 0
IsShare does scripts s dones t = JobsRise dones × Runs does scripts s dones t

-- what a worker that began at the state `s` left
abbrev pub IsReport : {S C : Type 0} → (S → ℕ → C → Done → S → Type 0) → List C → S → Report S
    → Type 0
IsReport does scripts s r = IsShare does scripts s r.dones.items r.state

-- each state has a share of the Dones that leads from it to the one of its place after, and all
-- shares together are just
-- these Dones
abbrev pub AreShared : {S C : Type 0} → (S → ℕ → C → Done → S → Type 0) → List C → List S
    → List Done → List S → Type 0
AreShared {S} does scripts states dones after =
    (shares : List (List Done × S))
    × AllZip (λ s share. IsShare does scripts s share.0 share.1) states shares
    × (map (λ share. share.1) shares ≡ after)
    × IsPermutation (flat_map (λ share. share.0) shares) dones

-- a fault of the pool, and none of its work
abbrev pub IsOwn : {E : Type 0} → PoolFail E → Type 0
IsOwn (Work e) = ⊥
IsOwn (Pool f) = ⊤

-- a fault that the work may end with on one of these jobs, whose script is the one of its number, from
-- 1; or want of memory: none of the pool's jobs is left out, and none is run twice
abbrev pub IsFault : {C E : Type 0} → (ℕ → C → E → Type 0) → List C → PoolFail E → Type 0
IsFault {C} faults scripts (Work e) = (number : ℕ) × (c : C) × (0 < number)
    × (slice_get scripts (number - 1) ≡ Some c) × faults number c e
IsFault faults scripts (Pool f) = f ≡ Memory
