-- Decisions that are taken one by one.
use Rattle.std.specs.Prelude.{◌≡◌, ℕ, ◌≤◌, ◌^◌, ◌⊎◌, List, length, map, take, Some, slice_get, Contains}
use Rattle.sgt_names.specs.Limits.{max_sites}
use Rattle.sgt_names.specs.Entry.{tx_of, IsEnd}
use Rattle.sgt_names.specs.declared.entry.Entry.{Entry}
use Rattle.sgt_names.specs.declared.entry.Entry.TheVariants as entry
use Rattle.sgt_bundle.specs.Certificate.{decided_tx, IsCommitted}
use Rattle.sgt_bundle.specs.declared.bundle.SiteLog.{SiteLog}
use Rattle.sgt_bundle.specs.declared.certificate.Decision.{Decision}
use Rattle.sgt_bundle.specs.declared.certificate.Decision.TheVariants.{Commit, Refuse, Withdraw}
use Rattle.sgt_certify_logs.specs.Witness.{EndsBefore, HasEnd, IsIn}
use Rattle.sgt_certify_greedy.specs.declared.greedy.Known.{Known}
use Rattle.sgt_certify_greedy.specs.declared.pairs.Rule.TheVariants.{Conflicts, Ends}
use Rattle.sgt_certify_greedy.specs.Pairs.{ArePairsOf, IsFollowed}
use Rattle.sgt_certify_greedy.specs.Sorted.{IsOrdered}
use Rattle.sgt_certify_greedy.specs.Walks.{HasNoRound, IsRound}

-- the decision is as the logs say: a commit with its rank in this order, a refusal with a walk
-- through these, or a withdrawal
abbrev pub IsFitting : List SiteLog → List ℕ → (ℕ → Type 0) → Decision → Type 0
IsFitting sites order Through (Commit t rank) = IsIn sites (entry.Commit t)
    × (slice_get order rank ≡ Some t)
IsFitting sites order Through (Refuse t walk) = IsIn sites (entry.Refuse t)
    × IsRound sites Through t walk
IsFitting sites order Through (Withdraw t) = IsIn sites (entry.Withdraw t)

-- none of these ends before the transaction
abbrev pub IsUnpreceded : List SiteLog → List ℕ → ℕ → Type 0
IsUnpreceded sites left t = (u : ℕ) → Contains left u → EndsBefore sites u t → ⊥

-- the transaction is refused, and no walk leads back to it through these
abbrev pub IsHopeless : List SiteLog → List ℕ → ℕ → Type 0
IsHopeless sites through t = IsIn sites (entry.Refuse t) × HasNoRound sites through t

-- the transaction is committed by one of the decisions
abbrev pub HasCommit : List Decision → ℕ → Type 0
HasCommit decisions t = (number : ℕ) × (rank : ℕ) × IsCommitted decisions number t rank

-- whoever ends in the log at this site is among these
abbrev pub HasEnders : List ℕ → List SiteLog → ℕ → Type 0
HasEnders txs sites site = (n : ℕ) (log : SiteLog) (e : Entry) → slice_get sites site ≡ Some log
    → slice_get log.entries n ≡ Some e → IsEnd e → Contains txs (tx_of e)

-- what is known of the logs: their pairs, and the order of the committed ones
pub record AreKnown (sites : List SiteLog) (known : Known) : Type 0 where
  pub few : length sites ≤ max_sites
  pub ends : ArePairsOf Ends sites known.ends.items
  pub conflicts : ArePairsOf Conflicts sites known.conflicts.items
  -- the committed ones and no others have a place in the order, and there are no more places than
  -- ranks
  pub committed : (t : ℕ) → IsIn sites (entry.Commit t) → Contains known.order.items t
  pub only : (t : ℕ) → Contains known.order.items t → IsIn sites (entry.Commit t)
  pub ordered : IsOrdered (IsFollowed Conflicts sites) known.order.items known.order.items
  pub few_ranks : length known.order.items ≤ 2 ^ 32

-- the list of commits, one decision later
pub record AreCommitsWith (commits next : List ℕ) (d : Decision) : Type 0 where
  pub kept : (t : ℕ) → Contains commits t → Contains next t
  pub added : (t rank : ℕ) → d ≡ Commit t rank → Contains next t
  pub only : (t : ℕ) → Contains next t → Contains commits t ⊎ ((rank : ℕ) × (d ≡ Commit t rank))

-- what holds of each element and those in front of it
abbrev pub OnFronts : {A : Type 0} → (List A → A → Type 0) → List A → Type 0
OnFronts {A} P xs = (n : ℕ) (x : A) → slice_get xs n ≡ Some x → P (take n xs) x

-- the transactions of the decisions
abbrev pub txs_of : List Decision → List ℕ
txs_of ds = map decided_tx ds

-- the decision was due when those in front of it were taken: it is on another transaction, all that
-- end before it are decided, and it fits
pub record IsDue (sites : List SiteLog) (order : List ℕ) (front : List Decision) (d : Decision) : Type 0 where
  pub new : Contains (txs_of front) (decided_tx d) → ⊥
  pub before : (u : ℕ) → EndsBefore sites u (decided_tx d) → Contains (txs_of front) u
  pub fits : IsFitting sites order (HasCommit front) d

-- some are left, the others are decided
pub record IsDeciding (sites : List SiteLog) (order left commits : List ℕ) (ds : List Decision) : Type 0 where
  pub all : (t : ℕ) → HasEnd sites t → Contains left t ⊎ Contains (txs_of ds) t
  pub left_only : (t : ℕ) → Contains left t → HasEnd sites t
  pub apart : (t : ℕ) → Contains left t → Contains (txs_of ds) t → ⊥
  pub kept : (t : ℕ) → Contains commits t → HasCommit ds t
  pub kept_all : (t : ℕ) → HasCommit ds t → Contains commits t
  pub each : OnFronts (IsDue sites order) ds

-- none of those left can be decided
abbrev pub IsSettled : List SiteLog → List ℕ → List ℕ → List Decision → Type 0
IsSettled sites order left ds = (commits : List ℕ) × IsDeciding sites order left commits ds
    × ((t : ℕ) → Contains left t → IsUnpreceded sites left t → IsHopeless sites commits t)
