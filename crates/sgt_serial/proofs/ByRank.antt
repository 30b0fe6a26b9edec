-- The committed transactions by rank are those that stand in order of their ranks.
use Rattle.std.proofs.Common.{◌≡◌, ℕ, zero, suc, ◌<◌, List, [], ◌∷◌, map, Some, refl, sym, ap, ◌∙◌, arith, inl, inr, All}
use Rattle.std.specs.Prelude.{slice_get, ◌==◌}
use Rattle.std.specs.List.{filter_map, range_with_len}
use Rattle.std.specs.Ordering.{nat_cmp}
use Rattle.std.specs.List.Sorted.{IsNonDecreasingBy, IsStableByKey, IsPermutation}
use Rattle.std.proofs.lemmas.Bool.{cases_Bool}
use Rattle.std.proofs.lemmas.List.Sorted.{All-permutation}
use Rattle.std.proofs.lemmas.Option.{same_Some}
use Rattle.sgt_names.proofs.Places.{All-from_at}
use Rattle.sgt_bundle.specs.Certificate.{IsCommitted, with_rank, rank_limit, by_rank}
use Rattle.sgt_bundle.specs.declared.certificate.Decision.{Decision}
use Rattle.sgt_bundle.specs.declared.certificate.Decision.TheVariants.{Commit, Refuse, Withdraw}
use Rattle.sgt_bundle.proofs.Ranks.{rank-lt-limit}
use Rattle.sgt_serial.specs.private.Order.{ranked_in}
use Rattle.sgt_serial.specs.declared.order.Ranked.{Ranked}
use Rattle.sgt_serial.proofs.Sorting.{of_number, by_number, stable-of_number, map-flat_map, flat_map-same}

abbrev rank_of : Ranked → ℕ
rank_of c = c.rank

-- what is ranked is committed
ranked-committed : (ds : List Decision) (n : ℕ) (c : Ranked) → slice_get (filter_map ranked_in ds) n ≡ Some c
    → (m : ℕ) × IsCommitted ds m c.tx c.rank
ranked-committed [] n c at = absurd cc
ranked-committed (Commit tx rank ∷ ds) zero c at =
    (0, ap (λ (b : Ranked). Some (Commit b.tx b.rank)) (same_Some (record { tx = tx; rank = rank }) c at))
ranked-committed (Commit tx rank ∷ ds) (suc n) c at = let found = ranked-committed ds n c at in (suc found.0, found.1)
ranked-committed (Refuse tx walk ∷ ds) n c at = let found = ranked-committed ds n c at in (suc found.0, found.1)
ranked-committed (Withdraw tx ∷ ds) n c at = let found = ranked-committed ds n c at in (suc found.0, found.1)

ranked-below : (ds : List Decision) → All (λ (c : Ranked). c.rank < rank_limit ds) (filter_map ranked_in ds)
ranked-below ds = All-from_at (λ (c : Ranked). c.rank < rank_limit ds) (filter_map ranked_in ds) (λ n c at.
    let found = ranked-committed ds n c at in rank-lt-limit ds found.0 c.tx c.rank found.1)

-- those of a rank, in the order of their decisions
of_rank : (k : ℕ) (ds : List Decision)
    → map (λ (c : Ranked). c.tx) (of_number rank_of k (filter_map ranked_in ds)) ≡ filter_map (with_rank k) ds
of_rank k [] = refl
of_rank k (Commit tx rank ∷ ds) =
    elim (cases_Bool (rank == k)) [
      | inl hit ↦ rw hit (ap (λ (txs : List ℕ). tx ∷ txs) (of_rank k ds))
      | inr miss ↦ rw miss (of_rank k ds)
    ]
of_rank k (Refuse tx walk ∷ ds) = of_rank k ds
of_rank k (Withdraw tx ∷ ds) = of_rank k ds

-- what a stable sort by rank leaves
pub by_rank-sorted : (ds : List Decision) (ys : List Ranked) → IsPermutation (filter_map ranked_in ds) ys
    → IsNonDecreasingBy rank_of ys → IsStableByKey rank_of nat_cmp (filter_map ranked_in ds) ys
    → map (λ (c : Ranked). c.tx) ys ≡ by_rank ds
by_rank-sorted ds ys moved rising stable =
    let limit = rank_limit ds in
    let ranks = range_with_len 0 limit in
    let below = All-permutation (λ (c : Ranked). c.rank < limit) (filter_map ranked_in ds) ys moved (ranked-below ds) in
    ap (map (λ (c : Ranked). c.tx))
    (sym (by_number rank_of ys limit 0 rising (λ k d lt. omega arith) (λ k d lt. let under = below k d lt in
    omega arith)))
    ∙ map-flat_map (λ (c : Ranked). c.tx) (λ k. of_number rank_of k ys) ranks
    ∙ flat_map-same (λ k. map (λ (c : Ranked). c.tx) (of_number rank_of k ys)) (λ k. filter_map (with_rank k) ds)
    (λ k. ap (map (λ (c : Ranked). c.tx)) (stable-of_number rank_of (filter_map ranked_in ds) ys stable
    (record { tx = 0; rank = k })) ∙ of_rank k ds) ranks
