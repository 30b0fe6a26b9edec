-- Ranks of committed transactions.
use Rattle.std.proofs.Common.{◌≡◌, ◌≢◌, ℕ, zero, suc, ◌+◌, ◌<◌, ◌≤◌, max, cond, List, [], ◌∷◌, Option, Some, None, refl, ap, ◌∙◌, ap₂, arith, inl, inr, ◌⊎◌, AllPairs}
use Rattle.std.specs.Prelude.{slice_get, ◌==◌, fold}
use Rattle.std.specs.List.{filter_map, cons_option}
use Rattle.std.proofs.lemmas.Bool.{cases_eq, eq-eqb, ne_eqb}
use Rattle.std.proofs.lemmas.Option.{same_Some}
use Rattle.sgt_names.proofs.Places.{AllPairs_at, AllPairs-tail}
use Rattle.sgt_bundle.specs.Certificate.{decided_tx, IsDecidedOnce, IsCommitted, ranks, with_rank, rank_limit}
use Rattle.sgt_bundle.specs.declared.certificate.Decision.{Decision}
use Rattle.sgt_bundle.specs.declared.certificate.Decision.TheVariants.{Commit, Refuse, Withdraw}

-- the rank with which a transaction is committed
abbrev pub rank_of : List Decision → ℕ → Option ℕ
rank_of [] tx = None
rank_of (Commit t r ∷ ds) tx = cond (t == tx) (Some r) (rank_of ds tx)
rank_of (Refuse t walk ∷ ds) tx = rank_of ds tx
rank_of (Withdraw t ∷ ds) tx = rank_of ds tx

abbrev pub DecidedApart : Decision → Decision → Type 0
DecidedApart d e = decided_tx d ≢ decided_tx e

abbrev pub Apart : ℕ → ℕ → Type 0
Apart r s = r ≢ s

pub rank_of-committed : (ds : List Decision) (m tx r : ℕ) → IsDecidedOnce ds → IsCommitted ds m tx r
    → rank_of ds tx ≡ Some r
rank_of-committed [] m tx r once at = absurd cc
rank_of-committed (Commit t s ∷ ds) zero tx r once at =
    let e = same_Some (Commit t s) (Commit tx r) at in
    let t-is : t ≡ tx = cc in
    let s-is : s ≡ r = cc in
    rw (eq-eqb t tx t-is) (ap Some s-is)
rank_of-committed (Commit t s ∷ ds) (suc m) tx r once at =
    let apart : t ≢ tx = AllPairs_at DecidedApart (Commit t s ∷ ds) 0 (suc m) (Commit t s) (Commit tx r) once
    (omega arith) refl at in
    ap (λ b. cond b (Some s) (rank_of ds tx)) (ne_eqb t tx apart)
    ∙ rank_of-committed ds m tx r (AllPairs-tail DecidedApart (Commit t s) ds once) at
rank_of-committed (Refuse t walk ∷ ds) zero tx r once at = absurd cc
rank_of-committed (Refuse t walk ∷ ds) (suc m) tx r once at =
    rank_of-committed ds m tx r (AllPairs-tail DecidedApart (Refuse t walk) ds once) at
rank_of-committed (Withdraw t ∷ ds) zero tx r once at = absurd cc
rank_of-committed (Withdraw t ∷ ds) (suc m) tx r once at =
    rank_of-committed ds m tx r (AllPairs-tail DecidedApart (Withdraw t) ds once) at

pub committed-rank_of : (ds : List Decision) (tx r : ℕ) → rank_of ds tx ≡ Some r → (m : ℕ) × IsCommitted ds m tx r
committed-rank_of [] tx r e = absurd cc
committed-rank_of (Commit t s ∷ ds) tx r e =
    elim (cases_eq t tx) [
      | inl same ↦
          let f : Some s ≡ Some r = rw (eq-eqb t tx same) at e in
          (0, ap₂ (λ a b. Some (Commit a b)) same (same_Some s r f))
      | inr apart ↦
          let f = rw (ne_eqb t tx apart) at e in
          let found = committed-rank_of ds tx r f in
          (suc found.0, found.1)
    ]
committed-rank_of (Refuse t walk ∷ ds) tx r e = let found = committed-rank_of ds tx r e in (suc found.0, found.1)
committed-rank_of (Withdraw t ∷ ds) tx r e = let found = committed-rank_of ds tx r e in (suc found.0, found.1)

-- the rank of a commit stands among the ranks
pub ranks_at : (ds : List Decision) (m tx r : ℕ) → IsCommitted ds m tx r → (n : ℕ) × (slice_get (ranks ds) n ≡ Some r)
ranks_at [] m tx r at = absurd cc
ranks_at (Commit t s ∷ ds) zero tx r at = let e = same_Some (Commit t s) (Commit tx r) at in let s-is : s ≡ r = cc in
    (0, ap Some s-is)
ranks_at (Commit t s ∷ ds) (suc m) tx r at = let found = ranks_at ds m tx r at in (suc found.0, found.1)
ranks_at (Refuse t walk ∷ ds) zero tx r at = absurd cc
ranks_at (Refuse t walk ∷ ds) (suc m) tx r at = ranks_at ds m tx r at
ranks_at (Withdraw t ∷ ds) zero tx r at = absurd cc
ranks_at (Withdraw t ∷ ds) (suc m) tx r at = ranks_at ds m tx r at

abbrev above : ℕ → ℕ → ℕ
above most rank = max most (rank + 1)

start-le-fold : (rs : List ℕ) (start : ℕ) → start ≤ fold above start rs
start-le-fold [] start = omega arith
start-le-fold (r ∷ rs) start = let more = start-le-fold rs (above start r) in omega arith

pub at-lt-fold : (rs : List ℕ) (start n r : ℕ) → slice_get rs n ≡ Some r → r < fold above start rs
at-lt-fold [] start n r at = absurd cc
at-lt-fold (s ∷ rs) start zero r at = let e = same_Some s r at in let more = start-le-fold rs (above start s) in
    omega arith
at-lt-fold (s ∷ rs) start (suc n) r at = at-lt-fold rs (above start s) n r at

pub rank-lt-limit : (ds : List Decision) (m tx r : ℕ) → IsCommitted ds m tx r → r < rank_limit ds
rank-lt-limit ds m tx r at = let found = ranks_at ds m tx r at in at-lt-fold (ranks ds) 0 found.0 r found.1

-- the one transaction of a rank, or that there is none
pub record IsOnly (ds : List Decision) (k tx : ℕ) : Type 0 where
  pub list : filter_map (with_rank k) ds ≡ tx ∷ []
  pub only : (m t : ℕ) → IsCommitted ds m t k → t ≡ tx
  pub number : ℕ
  pub at : IsCommitted ds number tx k

pub record IsNone (ds : List Decision) (k : ℕ) : Type 0 where
  pub list : filter_map (with_rank k) ds ≡ []
  pub none : (m t : ℕ) → IsCommitted ds m t k → ⊥

abbrev RanksApart : List Decision → Type 0
RanksApart ds = AllPairs Apart (ranks ds)

-- a decision of no such rank in front changes nothing
with-front : (d : Decision) (ds : List Decision) (k : ℕ) → with_rank k d ≡ None → ((t : ℕ) → d ≡ Commit t k → ⊥)
    → IsNone ds k ⊎ ((tx : ℕ) × IsOnly ds k tx) → IsNone (d ∷ ds) k ⊎ ((tx : ℕ) × IsOnly (d ∷ ds) k tx)
with-front d ds k silent apart (inl none) = inl (record {
  list = ap (λ o. cons_option o (filter_map (with_rank k) ds)) silent ∙ none.list;
  none = elim [ zero ↦ λ t at. apart t (same_Some d (Commit t k) at) | suc m ↦ λ t at. none.none m t at ];
})
with-front d ds k silent apart (inr found) = inr (
  found.0,
  record {
    list = ap (λ o. cons_option o (filter_map (with_rank k) ds)) silent ∙ found.1.list;
    only = elim [ zero ↦ λ t at. absurd (apart t (same_Some d (Commit t k) at)) | suc m ↦ λ t at. found.1.only m t at ];
    number = suc found.1.number;
    at = found.1.at;
  },
)

rank-of-same : (t s u k : ℕ) → Commit t s ≡ Commit u k → s ≡ k
rank-of-same t s u k e = cc

tx-of-same : (t s u k : ℕ) → Commit t s ≡ Commit u k → u ≡ t
tx-of-same t s u k e = cc

-- a rank that stands in front stands nowhere else
gone : (t s : ℕ) (ds : List Decision) (k m u : ℕ) → s ≡ k → RanksApart (Commit t s ∷ ds) → IsCommitted ds m u k → ⊥
gone t s ds k m u same apart at =
    let found = ranks_at ds m u k at in
    AllPairs_at Apart (s ∷ ranks ds) 0 (suc found.0) s k apart (omega arith) refl found.1 same

only-front : (t s : ℕ) (ds : List Decision) (k : ℕ) → s ≡ k → RanksApart (Commit t s ∷ ds)
    → IsNone ds k ⊎ ((tx : ℕ) × IsOnly ds k tx) → IsOnly (Commit t s ∷ ds) k t
only-front t s ds k same apart (inl none) = record {
  list = ap (λ b. cons_option (cond b (Some t) None) (filter_map (with_rank k) ds)) (eq-eqb s k same)
      ∙ ap (λ (us : List ℕ). t ∷ us) none.list;
  only = elim [
    | zero ↦ λ u at. tx-of-same t s u k (same_Some (Commit t s) (Commit u k) at)
    | suc m ↦ λ u at. absurd (gone t s ds k m u same apart at)
  ];
  number = 0;
  at = ap (λ r. Some (Commit t r)) same;
}
only-front t s ds k same apart (inr found) = absurd (gone t s ds k found.1.number found.0 same apart found.1.at)

pub of_rank : (ds : List Decision) (k : ℕ) → RanksApart ds → IsNone ds k ⊎ ((tx : ℕ) × IsOnly ds k tx)
of_rank [] k apart = inl (record { list = refl; none = λ m t at. absurd cc })
of_rank (Commit t s ∷ ds) k apart =
    let rest = of_rank ds k (AllPairs-tail Apart s (ranks ds) apart) in
    elim (cases_eq s k) [
      | inl same ↦ inr (t, only-front t s ds k same apart rest)
      | inr other ↦ with-front (Commit t s) ds k (ap (λ b. cond b (Some t) None) (ne_eqb s k other))
          (λ u e. other (rank-of-same t s u k e)) rest
    ]
of_rank (Refuse t walk ∷ ds) k apart = with-front (Refuse t walk) ds k refl (λ u e. absurd cc) (of_rank ds k apart)
of_rank (Withdraw t ∷ ds) k apart = with-front (Withdraw t) ds k refl (λ u e. absurd cc) (of_rank ds k apart)
