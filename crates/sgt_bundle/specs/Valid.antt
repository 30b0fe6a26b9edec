-- What makes a bundle's logs and certificate hold together.
use Rattle.std.specs.Prelude.{◌≡◌, ◌≢◌, ℕ, ◌<◌, ◌≤◌, List, [], ◌∷◌, All, AllPairs, Some, slice_get}
use Rattle.sgt_names.specs.Name.{Name}
use Rattle.sgt_names.specs.Entry.{tx_of, IsEnd, Clash}
use Rattle.sgt_names.specs.Log.{IsFormed, ReadsAreLegal, FinalsAreLegal, Conflicts}
use Rattle.sgt_names.specs.declared.entry.Entry.{Entry}
use Rattle.sgt_names.specs.declared.entry.Kind.{Kind}
use Rattle.sgt_bundle.specs.Parts.{Parts}
use Rattle.sgt_bundle.specs.Certificate.{decided_tx, IsDecidedOnce, Suits, IsCommitted, ranks, AreRanks, IsCycle}
use Rattle.sgt_bundle.specs.declared.certificate.Step.{Step}
use Rattle.sgt_bundle.specs.declared.certificate.Decision.{Decision}
use Rattle.sgt_bundle.specs.declared.certificate.Decision.TheVariants.{Refuse}
use Rattle.sgt_bundle.specs.declared.bundle.SiteLog.{SiteLog}

-- the entry's transaction is decided by the decision of this number, and that suits the entry
abbrev pub IsDecided : List Decision → Entry → ℕ → Type 0
IsDecided decisions e number = (d : Decision) × (slice_get decisions number ≡ Some d)
    × (decided_tx d ≡ tx_of e) × Suits e d

-- two ends stand in the order of their decisions
abbrev pub EndInOrder : List Decision → Entry → Entry → Type 0
EndInOrder decisions e f = IsEnd e → IsEnd f → (m n : ℕ) → IsDecided decisions e m
    → IsDecided decisions f n → m ≤ n

-- a log agrees with the decisions: each entry's transaction is decided as the entry says, and the
-- ends stand in the order
-- of their decisions
pub record Agrees (decisions : List Decision) (entries : List Entry) : Type 0 where
  pub decided : All (λ e. (number : ℕ) × IsDecided decisions e number) entries
  pub in_order : AllPairs (EndInOrder decisions) entries

-- two conflicting entries of committed transactions, the first of smaller rank
abbrev pub RiseInRank : List Decision → Entry → Entry → Type 0
RiseInRank decisions e f = (kind : Kind) (x : Name) (m n r s : ℕ) → Clash kind x e f
    → tx_of e ≢ tx_of f
    → IsCommitted decisions m (tx_of e) r → IsCommitted decisions n (tx_of f) s → r < s

-- conflicting entries of committed transactions stand in rising rank: the ranks are a topological
-- order of the serialization graph
abbrev pub IsRanked : List Decision → List Entry → Type 0
IsRanked decisions entries = AllPairs (RiseInRank decisions) entries

-- the step is a logged conflict of a with the transaction that it leads to
abbrev pub IsLogged : List SiteLog → ℕ → Step → Type 0
IsLogged logs a s = (log : SiteLog) × (slice_get logs s.label.site ≡ Some log)
    × Conflicts log.entries s.label.kind s.label.item a s.to

-- each step of the walk from a is one
abbrev pub AreLogged : List SiteLog → ℕ → List Step → Type 0
AreLogged sites a [] = Unit {0}
AreLogged sites a (step ∷ steps) = IsLogged sites a step × AreLogged sites step.to steps

-- each refused transaction lies on a cycle of logged conflicts, through transactions that were
-- committed before it was refused
abbrev pub RefusedLieOnCycles : Parts → Type 0
RefusedLieOnCycles b = (number tx : ℕ) (walk : List Step)
    → slice_get b.certificate.decisions number ≡ Some (Refuse tx walk)
    → IsCycle b.certificate.decisions number tx walk × AreLogged b.sites tx walk

-- a site's log is whole, legal, agrees with the decisions and is ranked by them
pub record IsValidLog (decisions : List Decision) (log : SiteLog) : Type 0 where
  pub formed : IsFormed log.items log.entries
  pub reads : ReadsAreLegal log.items log.entries
  pub finals : FinalsAreLegal log.items log.entries log.finals
  pub agrees : Agrees decisions log.entries
  pub ranked : IsRanked decisions log.entries

-- the bundle shows a run that is serializable in the order of the ranks, and a cycle for each
-- refused transaction
pub record IsValid (b : Parts) : Type 0 where
  pub logs : All (IsValidLog b.certificate.decisions) b.sites
  pub once : IsDecidedOnce b.certificate.decisions
  pub ranks : AreRanks (ranks b.certificate.decisions)
  pub cycles : RefusedLieOnCycles b
