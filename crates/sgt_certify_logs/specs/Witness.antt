-- What shows of logs that no certificate makes them valid: ends in a cycle, committed conflicts in
-- a cycle, a stuck set.
use Rattle.std.specs.Prelude.{◌≡◌, ℕ, ◌<◌, List, [], ◌∷◌, ◌++◌, Some, slice_get, All, Contains}
use Rattle.sgt_names.specs.Name.{Name}
use Rattle.sgt_names.specs.Entry.{tx_of, IsEnd}
use Rattle.sgt_names.specs.Log.{Conflicts}
use Rattle.sgt_names.specs.declared.entry.Entry.{Entry}
use Rattle.sgt_names.specs.declared.entry.Entry.TheVariants.{Commit, Refuse}
use Rattle.sgt_names.specs.declared.entry.Kind.{Kind}
use Rattle.sgt_bundle.specs.Certificate.{stops}
use Rattle.sgt_bundle.specs.Valid.{AreLogged}
use Rattle.sgt_bundle.specs.declared.certificate.Step.{Step}
use Rattle.sgt_bundle.specs.declared.bundle.SiteLog.{SiteLog}

-- ---- what the logs say of a transaction

-- the entry stands in one of the logs
abbrev pub IsIn : List SiteLog → Entry → Type 0
IsIn sites e = (log : SiteLog) × Contains sites log × Contains log.entries e

-- a log ends the transaction
abbrev pub HasEnd : List SiteLog → ℕ → Type 0
HasEnd sites t = (e : Entry) × IsIn sites e × IsEnd e × (tx_of e ≡ t)

-- ---- cycles

-- each number stands in the relation to the next one, from a on
abbrev pub IsChain : (ℕ → ℕ → Type 0) → ℕ → List ℕ → Type 0
IsChain R a [] = Unit {0}
IsChain R a (b ∷ bs) = R a b × IsChain R b bs

-- and so back to the first
abbrev pub HasCycle : (ℕ → ℕ → Type 0) → Type 0
HasCycle R = (a : ℕ) × (between : List ℕ) × IsChain R a (between ++ a ∷ [])

-- a log has an end of a before an end of b
pub record EndsBefore (sites : List SiteLog) (a b : ℕ) : Type 0 where
  pub log : SiteLog
  pub here : Contains sites log
  pub p : ℕ
  pub q : ℕ
  pub e : Entry
  pub f : Entry
  pub before : p < q
  pub first : slice_get log.entries p ≡ Some e
  pub second : slice_get log.entries q ≡ Some f
  pub from : tx_of e ≡ a
  pub to : tx_of f ≡ b
  pub ends : IsEnd e × IsEnd f

-- two committed transactions, of which the first has an entry in front of one of the second in
-- conflict with it
pub record PrecedesCommitted (sites : List SiteLog) (a b : ℕ) : Type 0 where
  pub committed : IsIn sites (Commit a) × IsIn sites (Commit b)
  pub log : SiteLog
  pub here : Contains sites log
  pub kind : Kind
  pub item : Name
  pub conflict : Conflicts log.entries kind item a b

-- the ends contradict one another: they stand in a cycle
abbrev pub HaveEndsInACycle : List SiteLog → Type 0
HaveEndsInACycle sites = HasCycle (EndsBefore sites)

-- the committed transactions conflict in a cycle
abbrev pub HaveConflictsInACycle : List SiteLog → Type 0
HaveConflictsInACycle sites = HasCycle (PrecedesCommitted sites)

-- ---- a stuck set

-- the transaction can be decided next: it isn't among those decided, and all that end before it in
-- a log are
pub record IsFree (sites : List SiteLog) (decided : List ℕ) (t : ℕ) : Type 0 where
  pub ends : HasEnd sites t
  pub open_yet : Contains decided t → ⊥
  pub next : (u : ℕ) → EndsBefore sites u t → Contains decided u

-- a walk of logged conflicts leads from the transaction back to it, through committed ones among
-- those decided
pub record LiesOnCycle (sites : List SiteLog) (decided : List ℕ) (t : ℕ) : Type 0 where
  pub walk : List Step
  pub between : List ℕ
  pub logged : AreLogged sites t walk
  pub closed : stops walk ≡ between ++ t ∷ []
  pub through : All (λ a. Contains decided a × IsIn sites (Commit a)) between

-- some transaction can be decided next, and each that can is refused and lies on no such cycle
pub record IsStuck (sites : List SiteLog) (decided : List ℕ) : Type 0 where
  pub free : (t : ℕ) × IsFree sites decided t
  pub refused : (t : ℕ) → IsFree sites decided t
      → IsIn sites (Refuse t) × (LiesOnCycle sites decided t → ⊥)
