-- A list by rising job, against the jobs 1, 2, ..
use Rattle.std.proofs.Common.{◌≡◌, ℕ, zero, suc, ◌+◌, ◌<◌, ◌≤◌, List, [], ◌∷◌, length, All, refl, ap, ◌∙◌, subst, arith, slice_index_or}
use Rattle.std.specs.List.{range_with_len}
use Rattle.std.specs.List.Sorted.{IsNonDecreasingBy}
use Rattle.std.proofs.lemmas.Option.{slice_get-get_or}
use Rattle.std.proofs.lemmas.List.{get_or_default}
use native.Mathlib.Decide.{dec_le}
use mathlib.Core.Logic.{dite}
use Rattle.sgt_workers.specs.declared.ticket.Done.{Done}
use Rattle.sgt_workers.specs.Answers.{jobs_of, IsJob}
use Rattle.sgt_workers.specs.Queue.{AreAll}
use Rattle.sgt_workers.proofs.Told.{IsMissing, IsDoubled, not_missing, not_doubled}

-- the first k Dones are those of the jobs from 1 on
abbrev pub First : List Done → ℕ → Type 0
First dones k = (i : ℕ) (d : Done) → i < k → (slice_index_or dones i d).job ≡ i + 1

numbered : (a : ℕ) (dones : List Done)
    → ((i : ℕ) (d : Done) → i < length dones → (slice_index_or dones i d).job ≡ a + i)
    → jobs_of dones ≡ range_with_len a (length dones)
numbered a [] each = refl
numbered a (x ∷ xs) each =
    let here : x.job ≡ a = omega (arith, each 0 x (omega arith)) in
    let rest : jobs_of xs ≡ range_with_len (a + 1) (length xs) =
    numbered (a + 1) xs (λ i d h. omega (arith, each (suc i) d (omega (arith, h)))) in
    λ i. here i ∷ rest i

not_long : (dones : List Done) (jobs : ℕ) → All (λ d. IsJob jobs d.job) dones → First dones (length dones)
    → length dones ≤ jobs
not_long [] jobs within first = omega arith
not_long (x ∷ xs) jobs within first =
    omega (arith, (within (length xs) x (omega arith)).1, first (length xs) x (omega arith))

module _ (dones : List Done) (jobs : ℕ) (up : IsNonDecreasingBy (λ d. d.job) dones)
    (within : All (λ d. IsJob jobs d.job) dones) where
  missing : (k : ℕ) (d : Done) → First dones k → k < length dones → k + 1 < (slice_index_or dones k d).job
      → IsMissing jobs dones (k + 1)
  missing k d first here more = (
    (omega arith, omega (arith, (within k d here).1, more)),
    λ i e h same. dite (dec_le k i) (λ (late : k ≤ i).
        let one : (slice_index_or dones k d).job ≡ (slice_index_or dones k e).job =
        ap (λ (x : Done). x.job) (get_or_default dones k d e here) in
        omega (arith, up k i e late h, one, more, same)) (λ early. omega (
          arith,
          first i e (omega (arith, early)),
          same,
          early,
        )),
  )

  twice : (k : ℕ) (d : Done) → First dones k → k < length dones → (slice_index_or dones k d).job < k + 1
      → IsDoubled dones (slice_index_or dones k d).job
  twice zero d first here less = absurd (omega (arith, (within 0 d here).0, less))
  twice (suc k) d first here less =
      let before : (slice_index_or dones k d).job ≡ k + 1 = first k d (omega arith) in
      let same : (slice_index_or dones k d).job ≡ (slice_index_or dones (suc k) d).job =
      omega (arith, before, less, up k (suc k) d (omega arith) here) in (
        k,
        suc k,
        slice_index_or dones k d,
        slice_index_or dones (suc k) d,
        omega arith,
        slice_get-get_or dones k d (omega (arith, here)),
        slice_get-get_or dones (suc k) d here,
        same,
        refl,
      )

  complete : First dones (length dones) → jobs ≤ length dones → jobs_of dones ≡ range_with_len 1 jobs
  complete first long =
      let same : length dones ≡ jobs = omega (arith, long, not_long dones jobs within first) in
      numbered 1 dones (λ i d h. omega (arith, first i d h)) ∙ ap (λ n. range_with_len 1 n) same

  next_one : AreAll jobs (jobs_of dones) → (k : ℕ) → First dones k → k < length dones → (d : Done)
      → (slice_index_or dones k d).job ≡ k + 1
  next_one all k first here d =
      dite (dec_le (slice_index_or dones k d).job k) (λ (less : (slice_index_or dones k d).job ≤ k).
      absurd (not_doubled jobs dones _ all (twice k d first here (omega (arith, less)))))
      (λ most. dite (dec_le (slice_index_or dones k d).job (k + 1))
      (λ (more : (slice_index_or dones k d).job ≤ k + 1). omega (arith, most, more))
      (λ far. absurd (not_missing jobs dones (k + 1) all (missing k d first here (omega (arith, far))))))

  first_all : AreAll jobs (jobs_of dones) → (k : ℕ) → k ≤ length dones → First dones k
  first_all all zero le = λ i d lt. absurd (omega (arith, lt))
  first_all all (suc k) le = λ i d lt.
      let before : First dones k = first_all all k (omega (arith, le)) in
      dite (dec_le k i) (λ (last : k ≤ i).
      let here : k ≡ i = omega (arith, last, lt) in
      subst (λ j. (slice_index_or dones j d).job ≡ j + 1) here (next_one all k before (omega (arith, le)) d))
      (λ early. before i d (omega (arith, early)))

  -- sorted, the Dones of all jobs are those of 1, 2, ..
  pub in_turn : AreAll jobs (jobs_of dones) → jobs_of dones ≡ range_with_len 1 jobs
  in_turn all =
      let first = first_all all (length dones) (omega arith) in
      dite (dec_le jobs (length dones)) (λ (long : jobs ≤ length dones). complete first long)
      (λ short. absurd (not_missing jobs dones (length dones + 1) all (
        (omega arith, omega (arith, short)),
        λ i e h same. absurd (omega (arith, first i e h, same, h)),
      )))
