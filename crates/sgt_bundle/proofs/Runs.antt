-- The serial run is of the committed transactions, and of no others.
use Rattle.std.proofs.Common.{◌≡◌, ℕ, zero, suc, ◌+◌, ◌<◌, ◌≤◌, cond, List, [], ◌∷◌, Option, Some, None, refl, sym, ap, ap₂, ◌∙◌, subst, arith, inl, inr, Contains}
use Rattle.std.specs.Prelude.{slice_get, ◌↔◌}
use Rattle.std.specs.List.{filter_map, flat_map, range_with_len, cons_option}
use Rattle.std.proofs.lemmas.Bool.{cases_eq, eq-eqb, ne_eqb}
use Rattle.std.proofs.lemmas.List.Elements.{Contains-append_left, Contains-append_right, Contains-append_cases}
use Rattle.std.proofs.lemmas.Option.{same_Some}
use Rattle.sgt_names.proofs.Places.{Contains_at, Contains-from_at}
use Rattle.sgt_bundle.specs.Certificate.{IsCommitted, with_rank, rank_limit, by_rank}
use Rattle.sgt_bundle.specs.declared.certificate.Decision.{Decision}
use Rattle.sgt_bundle.specs.declared.certificate.Decision.TheVariants.{Commit, Refuse, Withdraw}
use Rattle.sgt_bundle.proofs.Ranks.{rank-lt-limit}

abbrev pub of_rank : List Decision → ℕ → List ℕ
of_rank ds r = filter_map (with_rank r) ds

abbrev pub of_ranks : List Decision → ℕ → ℕ → List ℕ
of_ranks ds k n = flat_map (λ rank. filter_map (with_rank rank) ds) (range_with_len k n)

among : (o : Option ℕ) (xs : List ℕ) (a : ℕ) → Contains xs a → Contains (cons_option o xs) a
among None xs a c = c
among (Some b) xs a c = Contains-append_right (b ∷ []) xs a c

-- who is committed with a rank is listed under it
listed : (ds : List Decision) (m tx r : ℕ) → IsCommitted ds m tx r → Contains (of_rank ds r) tx
listed [] m tx r at = absurd cc
listed (d ∷ ds) zero tx r at =
    let gives : with_rank r d ≡ Some tx = ap (with_rank r) (same_Some d (Commit tx r) at)
    ∙ ap (λ b. cond b (Some tx) None) (eq-eqb r r refl) in
    subst (λ o. Contains (cons_option o (of_rank ds r)) tx) (sym gives) (Contains-from_at (tx ∷ of_rank ds r) 0 tx refl)
listed (d ∷ ds) (suc m) tx r at = among (with_rank r d) (of_rank ds r) tx (listed ds m tx r at)

within : (ds : List Decision) (tx r : ℕ) → Contains (of_rank ds r) tx → (n k : ℕ) → k ≤ r → r < k + n
    → Contains (of_ranks ds k n) tx
within ds tx r c zero k low high = absurd (omega arith)
within ds tx r c (suc n) k low high =
    elim (cases_eq k r) [
      | inl same ↦ Contains-append_left (of_rank ds k) (of_ranks ds (k + 1) n) tx
          (subst (λ i. Contains (of_rank ds i) tx) (sym same) c)
      | inr other ↦ Contains-append_right (of_rank ds k) (of_ranks ds (k + 1) n) tx
          (within ds tx r c n (k + 1) (omega arith) (omega arith))
    ]

only-at : (t tx n : ℕ) → slice_get (t ∷ []) n ≡ Some tx → t ≡ tx
only-at t tx zero at = same_Some t tx at
only-at t tx (suc n) at = absurd cc

only : (t tx : ℕ) → Contains (t ∷ []) tx → t ≡ tx
only t tx c = let place = Contains_at (t ∷ []) tx c in only-at t tx place.0 place.1

-- who is listed under a rank is committed with it
committed : (ds : List Decision) (tx r : ℕ) → Contains (of_rank ds r) tx → (m : ℕ) × IsCommitted ds m tx r
committed [] tx r (n, lt, is) = absurd (omega arith)
committed (Commit t s ∷ ds) tx r c =
    elim (cases_eq s r) [
      | inl same ↦
          let d = subst (λ b. Contains (cons_option (cond b (Some t) None) (of_rank ds r)) tx) (eq-eqb s r same) c in
          elim (Contains-append_cases (t ∷ []) (of_rank ds r) tx d) [
            | inl here ↦ (0, ap₂ (λ a b. Some (Commit a b)) (only t tx here) same)
            | inr later ↦ let found = committed ds tx r later in (suc found.0, found.1)
          ]
      | inr other ↦
          let found =
          committed ds tx r (subst (λ b. Contains (cons_option (cond b (Some t) None) (of_rank ds r)) tx)
          (ne_eqb s r other) c) in
          (suc found.0, found.1)
    ]
committed (Refuse t walk ∷ ds) tx r c = let found = committed ds tx r c in (suc found.0, found.1)
committed (Withdraw t ∷ ds) tx r c = let found = committed ds tx r c in (suc found.0, found.1)

some_rank : (ds : List Decision) (tx n k : ℕ) → Contains (of_ranks ds k n) tx
    → (m : ℕ) × (r : ℕ) × IsCommitted ds m tx r
some_rank ds tx zero k (n, lt, is) = absurd (omega arith)
some_rank ds tx (suc n) k c =
    elim (Contains-append_cases (of_rank ds k) (of_ranks ds (k + 1) n) tx c) [
      | inl here ↦ let found = committed ds tx k here in (found.0, k, found.1)
      | inr later ↦ some_rank ds tx n (k + 1) later
    ]

run : (ds : List Decision) (tx : ℕ) → (m : ℕ) × (r : ℕ) × IsCommitted ds m tx r → Contains (by_rank ds) tx
run ds tx (m, r, at) = let below = rank-lt-limit ds m tx r at in
    within ds tx r (listed ds m tx r at) (rank_limit ds) 0 (omega arith) (omega arith)

-- the committed transactions are run, and no others
pub runs-committed : (ds : List Decision) (tx : ℕ)
    → Contains (by_rank ds) tx ↔ ((m : ℕ) × (r : ℕ) × IsCommitted ds m tx r)
runs-committed ds tx = (some_rank ds tx (rank_limit ds) 0, run ds tx)
