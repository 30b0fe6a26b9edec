-- The decisions, each with its number, and those on one transaction.
use Rattle.std.specs.Prelude.{◌≡◌, ◌≢◌, ℕ, ◌+◌, ◌<◌, ◌≤◌, List, All, IsPermutation, map, take, Some, slice_get}
use Rattle.std.specs.List.{enumerate_from}
use Rattle.std.specs.List.Sorted.{IsNonDecreasingBy}
use Rattle.sgt_bundle.specs.Certificate.{decided_tx, IsCommitted}
use Rattle.sgt_bundle.specs.declared.certificate.Decision.{Decision}
use Rattle.sgt_explain_decisions.specs.declared.placed.Placed.{Placed}

abbrev pub placed_of : ℕ × Decision → Placed
placed_of (n, d) = record { tx = decided_tx d; number = n }

abbrev pub all_placed : List Decision → List Placed
all_placed decisions = map placed_of (enumerate_from 0 decisions)

-- neighbours of one transaction stand by their numbers
abbrev pub TiesRise : List Placed → Type 0
TiesRise placed = (k : ℕ) (p q : Placed) → slice_get placed k ≡ Some p → slice_get placed (k + 1) ≡ Some q
    → p.tx ≡ q.tx → p.number ≤ q.number

-- these are all decisions, each once with its number, by their transactions, and those of one transaction by their
-- numbers
pub record ArePlaced (decisions : List Decision) (placed : List Placed) : Type 0 where
  pub all : IsPermutation (all_placed decisions) placed
  pub rising : IsNonDecreasingBy (λ p. p.tx) placed
  pub ties : TiesRise placed

-- so many stand before those of the transaction, whose places are behind them
pub record StandBefore (placed : List Placed) (tx count : ℕ) : Type 0 where
  pub before : (n : ℕ) (p : Placed) → n < count → slice_get placed n ≡ Some p → p.tx < tx
  pub behind : (n : ℕ) (p : Placed) → count ≤ n → slice_get placed n ≡ Some p → tx ≤ p.tx

-- the decision of this number is on the transaction
pub record IsDecisionOn (decisions : List Decision) (tx number : ℕ) (decision : Decision) : Type 0 where
  pub there : slice_get decisions number ≡ Some decision
  pub on : decided_tx decision ≡ tx

-- no decision is on the transaction
abbrev pub IsUndecided : List Decision → ℕ → Type 0
IsUndecided decisions tx = All (λ d. decided_tx d ≢ tx) decisions

-- the decision of this number is the first on the transaction
pub record IsFirstOn (decisions : List Decision) (tx number : ℕ) : Type 0 where
  pub decision : Decision
  pub on : IsDecisionOn decisions tx number decision
  pub before : IsUndecided (take number decisions) tx

-- a decision is on the transaction
abbrev pub HasDecisionOn : List Decision → ℕ → Type 0
HasDecisionOn decisions tx = (number : ℕ) × IsFirstOn decisions tx number

-- no decision commits it
abbrev pub IsUncommitted : List Decision → ℕ → Type 0
IsUncommitted decisions tx = (number rank : ℕ) → IsCommitted decisions number tx rank → ⊥
