-- What is known of the Dones and the ends of all workers.
use Rattle.std.proofs.Common.{◌≡◌, ℕ, zero, suc, ◌-◌, ◌<◌, Some, refl, List, [], ◌∷◌, length, All, arith}
use Rattle.std.specs.Prelude.{slice_get}
use Rattle.std.specs.List.{sum_by}
use Rattle.std.proofs.lemmas.List.Sums.{sum_by-cons}
use Rattle.std.proofs.lemmas.Option.{slice_get_within}
use Rattle.sgt_workers.specs.declared.ticket.Done.{Done}
use Rattle.sgt_workers.specs.Answers.{IsJob, IsAnswer, jobs_of}
use Rattle.sgt_workers.specs.Queue.{AreAll}
use Rattle.sgt_workers.proofs.Weights.{two_weigh, is_it, weighs_one, weighs_none, weighs_once, weighs_there, weigh_jobs}

-- a Done that answers one of the scripts is of one of the jobs
pub job_there : {C : Type 0} (answers : ℕ → C → Done → Type 0) (scripts : List C) (d : Done)
    → IsAnswer answers scripts d → IsJob (length scripts) d.job
job_there answers scripts d a =
    let there : d.job - 1 < length scripts = slice_get_within scripts (d.job - 1) a.1.0 a.1.1 in
    (a.0, omega (arith, a.0, there))

-- no Done is of a job that has none; one with two Dones has them at two places
abbrev pub IsMissing : ℕ → List Done → ℕ → Type 0
IsMissing count dones n = IsJob count n × All (λ d. d.job ≡ n → ⊥) dones

abbrev pub IsDoubled : List Done → ℕ → Type 0
IsDoubled dones n = (i : ℕ) × (j : ℕ) × (d : Done) × (e : Done) × (i < j)
    × (slice_get dones i ≡ Some d) × (slice_get dones j ≡ Some e) × (d.job ≡ n) × (e.job ≡ n)

-- of the Dones of all jobs neither is so
pub not_doubled : (count : ℕ) (dones : List Done) (n : ℕ) → AreAll count (jobs_of dones) → IsDoubled dones n → ⊥
not_doubled count dones n all is =
    let two = two_weigh (λ (d : Done). is_it n d.job) dones is.0 is.1 is.2 is.3 is.4 is.5 is.6 in
    let one = weighs_one n is.2.job is.7 in
    let other = weighs_one n is.3.job is.8 in
    omega (arith, two, one, other, weigh_jobs (is_it n) dones, all (is_it n), weighs_once n 1 count)

none_weigh : (n : ℕ) (dones : List Done) → All (λ d. d.job ≡ n → ⊥) dones
    → sum_by (λ (d : Done). is_it n d.job) dones ≡ 0
none_weigh n [] none = refl
none_weigh n (d ∷ ds) none =
    omega (
      arith,
      sum_by-cons (λ (e : Done). is_it n e.job) d ds,
      weighs_none n d.job (none 0 d (omega arith)),
      none_weigh n ds (λ k e h. none (suc k) e (omega (arith, h))),
    )

pub not_missing : (count : ℕ) (dones : List Done) (n : ℕ) → AreAll count (jobs_of dones) → IsMissing count dones n → ⊥
not_missing count dones n all is =
    omega (
      arith,
      none_weigh n dones is.1,
      weigh_jobs (is_it n) dones,
      all (is_it n),
      weighs_there n 1 count (omega (arith, is.0.0)) (omega (arith, is.0.1)),
    )

pub below_jobs : (n : ℕ) (dones : List Done) → All (λ m. m < n) (jobs_of dones) → All (λ d. d.job < n) dones
below_jobs n [] a k d h = absurd (omega (arith, h))
below_jobs n (x ∷ xs) a zero d h = a 0 0 (omega arith)
below_jobs n (x ∷ xs) a (suc k) d h = below_jobs n xs (λ i m j. a (suc i) m (omega (arith, j))) k d (omega (arith, h))
