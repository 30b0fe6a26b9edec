-- Where a serial run first differs from what the logs record.
use Rattle.std.specs.Prelude.{◌≡◌, ◌⊎◌, ℕ, List, [], ◌∷◌, take, All, Option, Some, None, slice_get, IsSome}
use Rattle.sgt_names.specs.Name.{Name}
use Rattle.sgt_names.specs.declared.entry.Change.{Change}
use Rattle.sgt_bundle.specs.Parts.{Parts}
use Rattle.sgt_bundle.specs.Certificate.{by_rank}
use Rattle.sgt_bundle.specs.Serial.{Store, initial_store, store_after, RunsOn}
use Rattle.sgt_bundle.specs.declared.bundle.SiteLog.{SiteLog}
use Rattle.sgt_serial.specs.declared.report.SiteChange.{SiteChange}
use Rattle.sgt_serial.specs.declared.report.SiteValue.{SiteValue}
use Rattle.sgt_serial.specs.Report.{reads_of, writes_of, finals_of}

-- the store has this value
abbrev pub Has : Store → SiteValue → Type 0
Has store a = store a.site a.item ≡ Some a.value

-- the item is there
abbrev pub Knows : Store → SiteChange → Type 0
Knows store a = IsSome (store a.site a.item)

-- the first of the list that hasn't the property
pub record IsFirstWithout {A : Type 0} (P : A → Type 0) (xs : List A) (x : A) : Type 0 where
  pub place : ℕ
  pub at : slice_get xs place ≡ Some x
  pub before : All P (take place xs)
  pub without : P x → ⊥

-- the store that these transactions leave, run one after another from this one
abbrev pub store_after_all : List SiteLog → List ℕ → Store → Store
store_after_all sites [] store = store
store_after_all sites (tx ∷ txs) store = store_after_all sites txs (store_after sites tx store)

-- each of these transactions, run one after another from this store, reads and writes as its logs
-- say
abbrev pub AllRunOn : List SiteLog → List ℕ → Store → Type 0
AllRunOn sites [] store = Unit {0}
AllRunOn sites (tx ∷ txs) store = RunsOn sites tx store
    × AllRunOn sites txs (store_after sites tx store)

-- reads and then changes on this store first differ from it at this item of this site: there is the
-- first read of which the store has
-- another value or none, or, where the store has the values of all reads, the first write or
-- increment whose item isn't there
abbrev pub DiffersFrom : Store → (reads : List SiteValue) → (writes : List SiteChange) → ℕ → Name
    → Type 0
DiffersFrom store reads writes s x =
    ((v : ℕ) × IsFirstWithout (Has store) reads (record { site = s; item = x; value = v }))
    ⊎ (All (Has store) reads
    × ((c : Change)
    × IsFirstWithout (Knows store) writes (record { site = s; item = x; change = c })))

-- these transactions, run one after another from this store, first differ from their logs in this
-- one, at this item of this site:
-- those before it run as logged
abbrev pub DiffersIn : List SiteLog → List ℕ → Store → ℕ → ℕ → Name → Type 0
DiffersIn sites txs store tx s x =
    (n : ℕ) × (slice_get txs n ≡ Some tx) × AllRunOn sites (take n txs) store
    × DiffersFrom (store_after_all sites (take n txs) store) (reads_of sites tx)
    (writes_of sites tx) s x

-- the store that the committed transactions leave, run by rank
abbrev pub last_store : Parts → Store
last_store b = store_after_all b.sites (by_rank b.certificate.decisions) (initial_store b.sites)

-- the first difference of the bundle's serial run from the record is at this item of this site: in
-- this transaction,
-- or in none, where all transactions run as logged and the final values differ
abbrev pub IsFirstDifference : Parts → Option ℕ → ℕ → Name → Type 0
IsFirstDifference b (Some tx) s x =
    DiffersIn b.sites (by_rank b.certificate.decisions) (initial_store b.sites) tx s x
IsFirstDifference b None s x =
    (v : ℕ) × AllRunOn b.sites (by_rank b.certificate.decisions) (initial_store b.sites)
    × IsFirstWithout (Has (last_store b)) (finals_of b.sites)
    (record { site = s; item = x; value = v })
