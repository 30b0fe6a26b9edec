-- The committed transactions of bundles in a row, run alone one after another: bundle by bundle, and
-- those of a bundle by rank.
use Rattle.std.specs.Prelude.{ℕ, List, [], ◌∷◌, fold}
use Rattle.sgt_bundle.specs.Parts.{Parts}
use Rattle.sgt_bundle.specs.Certificate.{by_rank}
use Rattle.sgt_bundle.specs.Serial.{Store, initial_store, store_after, RunsSerially}

-- the committed transactions of a bundle by rank
abbrev pub committed_of : Parts → List ℕ
committed_of b = by_rank b.certificate.decisions

-- the store behind them all
abbrev pub store_behind : Parts → Store → Store
store_behind b store = fold (λ before tx. store_after b.sites tx before) store (committed_of b)

-- run on this store, and those of the next bundle on what they leave: each has every recorded read,
-- and each bundle every final value
abbrev pub RunInARow : List Parts → Store → Type 0
RunInARow [] store = Unit {0}
RunInARow (b ∷ bundles) store = RunsSerially b.sites (committed_of b) store
    × RunInARow bundles (store_behind b store)

-- one serial run, from the initial values of the first bundle
abbrev pub ChainAgrees : List Parts → Type 0
ChainAgrees [] = Unit {0}
ChainAgrees (b ∷ bundles) = RunInARow (b ∷ bundles) (initial_store b.sites)
