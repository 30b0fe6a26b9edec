-- The counts of seats added up, site after site.
use Rattle.std.proofs.Common.{◌≡◌, ℕ, zero, suc, ◌≤◌, List, [], ◌∷◌, ◌++◌, length, set, take, drop, Some, refl, ap, arith}
use Rattle.std.specs.Prelude.{slice_get}
use Rattle.std.proofs.lemmas.Option.{same_Some, slice_get_within}
use Rattle.sgt_service_locks.specs.Together.{both, added}
use Rattle.sgt_service_agreement.specs.declared.counts.EntryCounts.{EntryCounts}

-- up to a site they are added, and from there on they are as they were
abbrev pub AddedTo : List EntryCounts → List EntryCounts → ℕ → List EntryCounts
AddedTo cs ts n = added (take n cs) ts ++ drop n cs

whole : (cs : List EntryCounts) (n : ℕ) → take n cs ++ drop n cs ≡ cs
whole [] zero = refl
whole [] (suc n) = refl
whole (c ∷ cs) zero = refl
whole (c ∷ cs) (suc n) = ap (λ xs. c ∷ xs) (whole cs n)

pub added_at : (cs ts : List EntryCounts) (n : ℕ) → slice_get (AddedTo cs ts n) n ≡ slice_get cs n
added_at [] ts zero = refl
added_at [] ts (suc n) = refl
added_at (c ∷ cs) ts zero = refl
added_at (c ∷ cs) [] (suc n) = ap (λ xs. slice_get xs n) (whole cs n)
added_at (c ∷ cs) (t ∷ ts) (suc n) = added_at cs ts n

pub added_next : (cs ts : List EntryCounts) (n : ℕ) (c t : EntryCounts) → slice_get cs n ≡ Some c
    → slice_get ts n ≡ Some t
    → set (AddedTo cs ts n) n (both c t) ≡ AddedTo cs ts (suc n)
added_next [] ts n c t at there = absurd (let w = slice_get_within [] n c at in omega (arith, w))
added_next (x ∷ cs) [] n c t at there = absurd (let w = slice_get_within [] n t there in omega (arith, w))
added_next (x ∷ cs) (y ∷ ts) zero c t at there =
    let a = same_Some x c at in let b = same_Some y t there in rw (a, b) refl
added_next (x ∷ cs) (y ∷ ts) (suc n) c t at there = ap (λ xs. both x y ∷ xs) (added_next cs ts n c t at there)

-- where no more are added, or there are no more sites
pub added_over : (cs ts : List EntryCounts) (n : ℕ) → length ts ≤ n → AddedTo cs ts n ≡ added cs ts
added_over [] ts zero past = refl
added_over [] ts (suc n) past = refl
added_over (c ∷ cs) [] zero past = refl
added_over (c ∷ cs) [] (suc n) past = ap (λ xs. c ∷ xs) (whole cs n)
added_over (c ∷ cs) (t ∷ ts) zero past = absurd (omega (arith, past))
added_over (c ∷ cs) (t ∷ ts) (suc n) past = ap (λ xs. both c t ∷ xs) (added_over cs ts n (omega (arith, past)))
