-- The committed transactions alone, run one after another by rank.
use Rattle.std.specs.Prelude.{◌≡◌, ℕ, List, [], ◌∷◌, Option, Some, All, Contains, slice_get, option_and_then, IsSome, ◌==◌}
use Rattle.std.specs.List.{filter}
use Rattle.std.specs.Option.{option_map_or}
use Rattle.sgt_names.specs.Name.{Name}
use Rattle.sgt_names.specs.Entry.{tx_of}
use Rattle.sgt_names.specs.Log.{value_in, value_after}
use Rattle.sgt_names.specs.declared.entry.Entry.{Entry}
use Rattle.sgt_names.specs.declared.entry.Entry.TheVariants.{Read, Write, Add}
use Rattle.sgt_bundle.specs.Parts.{Parts}
use Rattle.sgt_bundle.specs.Certificate.{by_rank}
use Rattle.sgt_bundle.specs.declared.bundle.SiteLog.{SiteLog}

-- the value of each item of each site
abbrev pub Store : Type 0
Store = ℕ → Name → Option ℕ

-- the initial values
abbrev pub initial_store : List SiteLog → Store
initial_store sites s x =
    option_and_then (λ (log : SiteLog). value_in log.items x) (slice_get sites s)

-- the entries of a site, none of a site that isn't there
abbrev pub entries_of : List SiteLog → ℕ → List Entry
entries_of sites s = option_map_or (λ (log : SiteLog). log.entries) (slice_get sites s) []

-- the transaction's entries in a log, in order
abbrev pub own_entries : ℕ → List Entry → List Entry
own_entries tx entries = filter (λ e. tx_of e == tx) entries

-- the store with the transaction's logged writes put into it, and its logged increments added
abbrev pub store_after : List SiteLog → ℕ → Store → Store
store_after sites tx store s x = value_after (store s x) (own_entries tx (entries_of sites s)) x

-- the transaction, run on this store: each of its logged reads has the value of the store, and each
-- of its writes and
-- increments is of an item that is there
pub record RunsOn (sites : List SiteLog) (tx : ℕ) (store : Store) : Type 0 where
  pub reads : (s : ℕ) (x : Name) (v : ℕ) → Contains (entries_of sites s) (Read tx x v)
      → store s x ≡ Some v
  pub writes : (s : ℕ) (x : Name) (v : ℕ) → Contains (entries_of sites s) (Write tx x v)
      → IsSome (store s x)
  pub adds : (s : ℕ) (x : Name) (v : ℕ) → Contains (entries_of sites s) (Add tx x v)
      → IsSome (store s x)

-- the transactions, run one after another from this store, which leave the recorded final values
abbrev pub RunsSerially : List SiteLog → List ℕ → Store → Type 0
RunsSerially sites [] store = (s : ℕ) (log : SiteLog) → slice_get sites s ≡ Some log
    → All (λ h. store s h.item ≡ Some h.value) log.finals
RunsSerially sites (tx ∷ txs) store = RunsOn sites tx store
    × RunsSerially sites txs (store_after sites tx store)

-- the serial history of the committed projection, by rank, has every recorded read and every final
-- value
abbrev pub SerialAgrees : Parts → Type 0
SerialAgrees b = RunsSerially b.sites (by_rank b.certificate.decisions) (initial_store b.sites)
