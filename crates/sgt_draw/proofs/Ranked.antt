-- The committed transactions of the first ranks, by rank.
use Rattle.std.proofs.Common.{◌≡◌, ℕ, zero, suc, ◌<◌, List, [], ◌∷◌, true, false, Some, map, refl, sym, ap, ◌∙◌, subst, arith, inl, inr, All, Contains}
use Rattle.std.specs.Prelude.{◌==◌, nat_lt}
use Rattle.std.specs.List.{filter_map, range_with_len}
use Rattle.std.proofs.lemmas.Bool.{cases_Bool}
use Rattle.std.proofs.lemmas.Bool.Decides.{nat_tests}
use Rattle.std.proofs.lemmas.List.Elements.{All-nil, All-cons}
use Rattle.std.proofs.lemmas.List.Sorted.{All-permutation}
use Rattle.std.proofs.lemmas.Option.{same_Some}
use Rattle.sgt_names.proofs.Elements.{contains-later}
use Rattle.sgt_names.proofs.Places.{Contains-from_at}
use Rattle.sgt_bundle.specs.Certificate.{IsCommitted, with_rank}
use Rattle.sgt_bundle.specs.declared.certificate.Decision.{Decision}
use Rattle.sgt_bundle.specs.declared.certificate.Decision.TheVariants.{Commit, Refuse, Withdraw}
use Rattle.sgt_draw.specs.Private.{IsRanked, numbered_in}
use Rattle.sgt_draw.specs.Wanted.{ranked_below}
use Rattle.sgt_draw.specs.declared.scene.Numbered.{Numbered}
use Rattle.sgt_draw.proofs.Sorting.{of_number, by_number, stable-of_number, map-flat_map, flat_map-range}

abbrev rank_of : Numbered → ℕ
rank_of c = c.number

abbrev tx_of : Numbered → ℕ
tx_of c = c.tx

less : (a b : ℕ) → nat_lt a b ≡ true → a < b
less a b h = grind (arith, nat_tests)

is-less : (a b : ℕ) → a < b → nat_lt a b ≡ true
is-less a b h = grind (arith, nat_tests)

not-less : (a b : ℕ) → nat_lt a b ≡ false → a < b → ⊥
not-less a b h lt = grind (arith, nat_tests)

-- each is committed, with a rank below that
pub are-committed : (most : ℕ) (ds : List Decision)
    → All (λ (c : Numbered). (n : ℕ) × (c.number < most) × IsCommitted ds n c.tx c.number) (filter_map (numbered_in most) ds)
are-committed most [] = All-nil (λ (c : Numbered). (n : ℕ) × (c.number < most) × IsCommitted [] n c.tx c.number)
are-committed most (Commit tx rank ∷ ds) =
    let P = λ (c : Numbered). (n : ℕ) × (c.number < most) × IsCommitted (Commit tx rank ∷ ds) n c.tx c.number in
    let rest : All P (filter_map (numbered_in most) ds) =
    λ k d lt. (let h = are-committed most ds k d lt in (suc h.0, h.1, h.2)) in
    elim (cases_Bool (nat_lt rank most)) [
      | inl hit ↦ rw hit (All-cons P (record { tx = tx; number = rank }) (filter_map (numbered_in most) ds)
          (0, less rank most hit, refl) rest)
      | inr miss ↦ rw miss rest
    ]
are-committed most (Refuse tx walk ∷ ds) = λ k d lt. (let h = are-committed most ds k d lt in (suc h.0, h.1, h.2))
are-committed most (Withdraw tx ∷ ds) = λ k d lt. (let h = are-committed most ds k d lt in (suc h.0, h.1, h.2))

-- all that are committed with such a rank are there
pub has-committed : (most : ℕ) (ds : List Decision) (n tx rank : ℕ) → rank < most → IsCommitted ds n tx rank
    → Contains (filter_map (numbered_in most) ds) (record { tx = tx; number = rank })
has-committed most [] n tx rank lt at = absurd cc
has-committed most (Commit t r ∷ ds) zero tx rank lt at =
    let is : Commit t r ≡ Commit tx rank = same_Some (Commit t r) (Commit tx rank) at in
    let e : t ≡ tx = cc in
    let f : r ≡ rank = cc in
    let hit : nat_lt r most ≡ true = is-less r most (subst (λ x. x < most) (sym f) lt) in
    let there : Contains (record { tx = t; number = r } ∷ filter_map (numbered_in most) ds) (record { tx = tx; number = rank }) =
    Contains-from_at (record { tx = t; number = r } ∷ filter_map (numbered_in most) ds) 0 (record { tx = tx; number = rank })
    (ap (λ (x : ℕ). Some (record { tx = x; number = r })) e ∙ ap (λ (y : ℕ). Some (record { tx = tx; number = y })) f) in
    rw hit there
has-committed most (Commit t r ∷ ds) (suc n) tx rank lt at =
    let more = has-committed most ds n tx rank lt at in
    elim (cases_Bool (nat_lt r most)) [
      | inl hit ↦ rw hit (contains-later (record { tx = t; number = r }) (filter_map (numbered_in most) ds)
          (record { tx = tx; number = rank }) more)
      | inr miss ↦ rw miss more
    ]
has-committed most (Refuse t walk ∷ ds) zero tx rank lt at = absurd cc
has-committed most (Withdraw t ∷ ds) zero tx rank lt at = absurd cc
has-committed most (Refuse t walk ∷ ds) (suc n) tx rank lt at = has-committed most ds n tx rank lt at
has-committed most (Withdraw t ∷ ds) (suc n) tx rank lt at = has-committed most ds n tx rank lt at

-- those of a rank, in the order of their decisions
of_rank : (most k : ℕ) (ds : List Decision) → k < most
    → map tx_of (of_number rank_of k (filter_map (numbered_in most) ds)) ≡ filter_map (with_rank k) ds
of_rank most k [] below = refl
of_rank most k (Commit tx rank ∷ ds) below =
    elim (cases_Bool (nat_lt rank most)) [
      | inl hit ↦
          elim (cases_Bool (rank == k)) [
            | inl same ↦ rw (hit, same) (ap (λ (txs : List ℕ). tx ∷ txs) (of_rank most k ds below))
            | inr other ↦ rw (hit, other) (of_rank most k ds below)
          ]
      | inr miss ↦
          elim (cases_Bool (rank == k)) [
            | inl same ↦ absurd (not-less rank most miss (is-below rank k most same below))
            | inr other ↦ rw (miss, other) (of_rank most k ds below)
          ]
    ]
  where
    is-below : (a b c : ℕ) → (a == b) ≡ true → b < c → a < c
    is-below a b c h lt = grind (arith, nat_tests)
of_rank most k (Refuse tx walk ∷ ds) below = of_rank most k ds below
of_rank most k (Withdraw tx ∷ ds) below = of_rank most k ds below

-- what a stable sort by rank leaves
pub ranked : (most : ℕ) (ds : List Decision) (ys : List Numbered) → IsRanked (filter_map (numbered_in most) ds) ys
    → map tx_of ys ≡ ranked_below most ds
ranked most ds ys is =
    let ranks = range_with_len 0 most in
    let xs = filter_map (numbered_in most) ds in
    let below = All-permutation (λ (c : Numbered). (n : ℕ) × (c.number < most) × IsCommitted ds n c.tx c.number) xs ys
    is.all (are-committed most ds) in
    ap (map tx_of)
    (sym (by_number rank_of ys most 0 is.rising (λ k d lt. omega arith) (λ k d lt. let under = (below k d lt).1 in
    omega (arith, under))))
    ∙ map-flat_map tx_of (λ k. of_number rank_of k ys) ranks
    ∙ flat_map-range (λ k. map tx_of (of_number rank_of k ys)) (λ k. filter_map (with_rank k) ds) most 0
    (λ k le lt. ap (map tx_of) (stable-of_number rank_of xs ys is.stable (record { tx = 0; number = k }))
    ∙ of_rank most k ds (omega (arith, lt)))
