-- Ends of a log against a set of decided transactions.
use Rattle.std.specs.Prelude.{◌≡◌, ℕ, ◌<◌, false, List, Contains, Some, slice_get}
use Rattle.std.specs.BTreeSet.{BTreeSet, contains}
use Rattle.std.specs.Ordering.{nat_cmp}
use Rattle.sgt_names.specs.Entry.{tx_of, IsEnd}
use Rattle.sgt_names.specs.declared.entry.Entry.{Entry}
use Rattle.sgt_names.specs.declared.entry.Entry.TheVariants.{Commit}
use Rattle.sgt_bundle.specs.declared.bundle.SiteLog.{SiteLog}
use Rattle.sgt_certify_logs.specs.Witness.{EndsBefore}
use Rattle.sgt_certify_stuck.specs.Apart.{HasTx}
use Rattle.sgt_certify_stuck.specs.Circles.{IsEncircled}
use Rattle.sgt_certify_stuck.specs.Ends.{AllDecided, IsFirstLeft}
use Rattle.sgt_certify_stuck.specs.declared.stuck.StuckSet.{StuckSet}

-- none of these is committed by an entry
abbrev pub HasNoCommit : List Entry → BTreeSet ℕ → Type 0
HasNoCommit entries others = (k t : ℕ) → slice_get entries k ≡ Some (Commit t) → HasTx others t → ⊥

-- an end of a transaction that isn't decided stands in front of place n
abbrev pub HasLeft : List Entry → BTreeSet ℕ → ℕ → Type 0
HasLeft entries decided n = (p : ℕ) × (e : Entry) × (p < n) × (slice_get entries p ≡ Some e)
    × IsEnd e × (contains nat_cmp decided (tx_of e) ≡ false)

-- and behind it one of this
abbrev pub IsBehind : List Entry → BTreeSet ℕ → ℕ → Type 0
IsBehind entries decided tx = (q : ℕ) × (f : Entry) × HasLeft entries decided q
    × (slice_get entries q ≡ Some f) × IsEnd f × (tx_of f ≡ tx)

-- an end of the transaction stands behind the place
abbrev pub EndsBehind : List Entry → (place tx : ℕ) → Type 0
EndsBehind entries place tx = (q : ℕ) × (f : Entry) × (place < q) × (slice_get entries q ≡ Some f) × IsEnd f
    × (tx_of f ≡ tx)

-- whoever ends before an end of this is decided
abbrev pub IsNext : List Entry → BTreeSet ℕ → ℕ → Type 0
IsNext entries decided tx = (q : ℕ) (f : Entry) → slice_get entries q ≡ Some f → IsEnd f → tx_of f ≡ tx
    → AllDecided entries decided q

-- whoever ends before the transaction is decided
abbrev pub IsNextInAll : List SiteLog → BTreeSet ℕ → ℕ → Type 0
IsNextInAll sites decided tx = (u : ℕ) → EndsBefore sites u tx → HasTx decided u

-- where the transaction can be decided next, it is refused and has a circle
abbrev pub IsShown : List SiteLog → StuckSet → BTreeSet ℕ → ℕ → Type 0
IsShown sites stuck decided tx = IsNextInAll sites decided tx → IsEncircled sites stuck tx

-- so is whoever ends first in the log of those that aren't decided
abbrev pub IsLogShown : List SiteLog → StuckSet → BTreeSet ℕ → SiteLog → Type 0
IsLogShown sites stuck decided log = (k tx : ℕ) → IsFirstLeft log.entries decided k tx
    → IsShown sites stuck decided tx

-- each log is shown
abbrev pub AreShown : List SiteLog → StuckSet → BTreeSet ℕ → Type 0
AreShown sites stuck decided = (log : SiteLog) → Contains sites log
    → IsLogShown sites stuck decided log

-- whoever ends first in the log of those that aren't decided can be decided next
abbrev pub IsFreeIn : List SiteLog → BTreeSet ℕ → SiteLog → Type 0
IsFreeIn sites decided log = (k : ℕ) × (tx : ℕ) × IsFirstLeft log.entries decided k tx
    × IsNextInAll sites decided tx

-- so is it in one of the logs
abbrev pub HasFree : List SiteLog → BTreeSet ℕ → Type 0
HasFree sites decided = (log : SiteLog) × Contains sites log × IsFreeIn sites decided log

-- a log commits none of these
abbrev pub AreUncommitted : List SiteLog → BTreeSet ℕ → Type 0
AreUncommitted sites others = (log : SiteLog) → Contains sites log → HasNoCommit log.entries others
