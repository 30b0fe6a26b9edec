-- The first end of a log of those that aren't decided.
use Rattle.std.specs.Prelude.{◌≡◌, ℕ, ◌<◌, false, List, Some, slice_get}
use Rattle.std.specs.BTreeSet.{BTreeSet, contains}
use Rattle.std.specs.Ordering.{nat_cmp}
use Rattle.sgt_names.specs.Entry.{tx_of, IsEnd}
use Rattle.sgt_names.specs.declared.entry.Entry.{Entry}
use Rattle.sgt_certify_stuck.specs.Apart.{HasTx}

-- whoever ends among the first n entries is decided
abbrev pub AllDecided : List Entry → BTreeSet ℕ → ℕ → Type 0
AllDecided entries decided n = (k : ℕ) (e : Entry) → k < n → slice_get entries k ≡ Some e → IsEnd e
    → HasTx decided (tx_of e)

-- the entry at k ends this transaction, that isn't decided, and whoever ends before is
abbrev pub IsFirstLeft : List Entry → BTreeSet ℕ → ℕ → ℕ → Type 0
IsFirstLeft entries decided k tx = (e : Entry) × (slice_get entries k ≡ Some e) × IsEnd e
    × (tx_of e ≡ tx)
    × (contains nat_cmp decided tx ≡ false) × AllDecided entries decided k
