-- Dones whose jobs rise.
use Rattle.std.proofs.Common.{◌≡◌, ◌∙◌, ◌<◌, ◌≤◌, ◌+◌, ◌-◌, ℕ, suc, zero, List, [], ◌∷◌, Some, ap, arith, get_or, slice_index_or}
use Rattle.std.specs.Prelude.{slice_get}
use Rattle.std.specs.List.{range_with_len}
use Rattle.std.specs.List.Sorted.{IsNonDecreasingBy}
use Rattle.std.proofs.lemmas.Option.{slice_get-get_or, slice_get_within}
use native.Mathlib.Decide.{dec_le}
use mathlib.Core.Logic.{dite}
use Rattle.sgt_names.proofs.Places.{AllPairs-from_at}
use Rattle.sgt_workers.specs.Answers.{JobsRise, jobs_of}
use Rattle.sgt_workers.specs.declared.ticket.Done.{Done}

-- by the distance
rises_by : (ds : List Done) → ((k : ℕ) (d e : Done) → slice_get ds k ≡ Some d → slice_get ds (suc k) ≡ Some e
    → d.job < e.job) → (n p q : ℕ) (d e : Done)
    → q ≡ suc (p + n) → slice_get ds p ≡ Some d → slice_get ds q ≡ Some e → d.job < e.job
rises_by ds each zero p q d e far first second =
    each p d e first (ap (slice_get ds) (let e : suc p ≡ q = omega (arith, far) in e) ∙ second)
rises_by ds each (suc n) p q d e far first second =
    let low = slice_get_within ds q e second in
    let middle : Done = get_or ds (suc (p + n)) d in
    let at : slice_get ds (suc (p + n)) ≡ Some middle = slice_get-get_or ds (suc (p + n)) d (omega (arith, low, far)) in
    let here = rises_by ds each n p (suc (p + n)) d middle (omega arith) first at in
    let next =
    each (suc (p + n)) middle e at (ap (slice_get ds) (let e : suc (suc (p + n)) ≡ q = omega (arith, far) in e)
    ∙ second) in
    omega (arith, here, next)

pub rises_throughout : (ds : List Done)
    → ((k : ℕ) (d e : Done) → slice_get ds k ≡ Some d → slice_get ds (suc k) ≡ Some e → d.job < e.job) → JobsRise ds
rises_throughout ds each =
    AllPairs-from_at (λ (d e : Done). d.job < e.job) ds
    (λ p q d e lt first second. rises_by ds each (q - suc p) p q d e (omega (arith, lt)) first second)

-- so they don't decrease
pub not_decreasing : (ds : List Done) → JobsRise ds → IsNonDecreasingBy (λ d. d.job) ds
not_decreasing ds rise i j d le within =
    dite (dec_le (suc i) j) (λ (low : suc i ≤ j). omega (arith, rise i j d (omega (arith, low)) within))
    (λ high. let same : i ≡ j = omega (arith, le, high) in omega (arith, ap (λ k. (slice_index_or ds k d).job) same))

-- the job at a place
number_at : (a : ℕ) (ds : List Done) (n : ℕ) → jobs_of ds ≡ range_with_len a n → (i : ℕ) (d : Done)
    → slice_get ds i ≡ Some d → d.job ≡ a + i
number_at a [] n is i d at = absurd cc
number_at a (x ∷ xs) zero is i d at = absurd cc
number_at a (x ∷ xs) (suc n) is zero d at =
    let here : x ≡ d = cc in
    let first : x.job ≡ a = cc in
    omega (arith, first, ap (λ (y : Done). y.job) here)
number_at a (x ∷ xs) (suc n) is (suc i) d at =
    let rest : jobs_of xs ≡ range_with_len (a + 1) n = cc in
    omega (arith, number_at (a + 1) xs n rest i d at)

-- those of the jobs one after another rise
pub numbered_rise : (a : ℕ) (ds : List Done) (n : ℕ) → jobs_of ds ≡ range_with_len a n → JobsRise ds
numbered_rise a ds n is = AllPairs-from_at (λ (d e : Done). d.job < e.job) ds (λ p q d e lt first second.
    omega (arith, lt, number_at a ds n is p d first, number_at a ds n is q e second))
