-- What a certificate says, by itself: who is decided, the ranks of the committed, the walks of the
-- refused.
use Rattle.std.specs.Prelude.{◌≡◌, ◌≢◌, ℕ, Bool, true, false, ◌+◌, ◌<◌, ◌≤◌, max, if◌then◌else◌, ◌==◌}
use Rattle.std.specs.Prelude.{List, [], ◌∷◌, ◌++◌, length, map, All, AllPairs, Option, Some, None, slice_get, fold}
use Rattle.std.specs.List.{filter_map, flat_map, range_with_len}
use Rattle.sgt_names.specs.declared.entry.Entry.{Entry}
use Rattle.sgt_names.specs.declared.entry.Entry.TheVariants as entry
use Rattle.sgt_bundle.specs.declared.certificate.Step.{Step}
use Rattle.sgt_bundle.specs.declared.certificate.Decision.{Decision}
use Rattle.sgt_bundle.specs.declared.certificate.Decision.TheVariants.{Commit, Refuse, Withdraw}

-- the transaction that is decided
abbrev pub decided_tx : Decision → ℕ
decided_tx (Commit tx rank) = tx
decided_tx (Refuse tx walk) = tx
decided_tx (Withdraw tx) = tx

-- the three kinds of decision
abbrev pub is_commit : Decision → Bool
is_commit (Commit tx rank) = true
is_commit _ = false

abbrev pub is_refusal : Decision → Bool
is_refusal (Refuse tx walk) = true
is_refusal _ = false

abbrev pub is_withdrawal : Decision → Bool
is_withdrawal (Withdraw tx) = true
is_withdrawal _ = false

-- the walk of a refusal
abbrev pub walk_of : Decision → Option (List Step)
walk_of (Refuse tx walk) = Some walk
walk_of _ = None

-- each transaction is in at most one decision
abbrev pub IsDecidedOnce : List Decision → Type 0
IsDecidedOnce decisions = AllPairs (λ d e. decided_tx d ≢ decided_tx e) decisions

-- the decision suits an entry of its transaction: who wrote or added is committed, who wanted to is
-- refused, and an end
-- has the kind of the decision
abbrev pub Suits : Entry → Decision → Type 0
Suits (entry.Read tx x v) d = Unit {0}
Suits (entry.Write tx x v) (Commit i rank) = Unit {0}
Suits (entry.Add tx x v) (Commit i rank) = Unit {0}
Suits (entry.Want tx x v) (Refuse i walk) = Unit {0}
Suits (entry.WantAdd tx x v) (Refuse i walk) = Unit {0}
Suits (entry.Commit tx) (Commit i rank) = Unit {0}
Suits (entry.Refuse tx) (Refuse i walk) = Unit {0}
Suits (entry.Withdraw tx) (Withdraw i) = Unit {0}
Suits _ _ = ⊥

-- the transaction is committed by the decision of this number, with this rank
abbrev pub IsCommitted : List Decision → (number tx rank : ℕ) → Type 0
IsCommitted decisions number tx rank = slice_get decisions number ≡ Some (Commit tx rank)

-- the rank of a commit
abbrev pub rank_in : Decision → Option ℕ
rank_in (Commit tx rank) = Some rank
rank_in _ = None

abbrev pub ranks : List Decision → List ℕ
ranks decisions = filter_map rank_in decisions

-- the ranks of the n commits are 0 to n - 1, each once: all are below n, and no two are the same
pub record AreRanks (rs : List ℕ) : Type 0 where
  pub below : All (λ r. r < length rs) rs
  pub apart : AllPairs (λ r s. r ≢ s) rs

-- the transaction, if the decision commits it with this rank
abbrev pub with_rank : ℕ → Decision → Option ℕ
with_rank rank (Commit tx r) = if r == rank then Some tx else None
with_rank rank _ = None

-- a number above each rank
abbrev pub rank_limit : List Decision → ℕ
rank_limit decisions = fold (λ most rank. max most (rank + 1)) 0 (ranks decisions)

-- the committed transactions by rank; those of one rank by the order of their decisions
abbrev pub by_rank : List Decision → List ℕ
by_rank decisions =
    flat_map (λ rank. filter_map (with_rank rank) decisions)
    (range_with_len 0 (rank_limit decisions))

-- where the steps of a walk lead
abbrev pub stops : List Step → List ℕ
stops walk = map (λ step. step.to) walk

-- the walk of a refused transaction, decided by this number, has the shape of a cycle through
-- transactions that were committed earlier
-- (that each of its steps is a conflict of the logs is said apart)
pub record IsCycle (decisions : List Decision) (number tx : ℕ) (walk : List Step) : Type 0 where
  -- the transactions between
  pub between : List ℕ
  pub long : 1 ≤ length between
  pub closed : stops walk ≡ between ++ tx ∷ []
  pub distinct : AllPairs (λ a b. a ≢ b) between
  pub others : All (λ a. a ≢ tx) between
  pub earlier : All
      (λ a. (m : ℕ) × (rank : ℕ) × (m < number) × IsCommitted decisions m a rank) between
