-- Bundles of one system in a row.
use Rattle.std.specs.Prelude.{◌≡◌, ℕ, suc, ◌-◌, List, length, map, All, Option, Some, option_map, slice_get}
use Rattle.sgt_names.specs.declared.entry.Holding.{Holding}
use Rattle.sgt_bundle.specs.Parts.{Parts}
use Rattle.sgt_bundle.specs.Valid.{IsValid}
use Rattle.sgt_bundle.specs.declared.bundle.SiteLog.{SiteLog}

-- the initial values of the items of a log, and the final ones
abbrev pub initial_of : SiteLog → List Holding
initial_of log = log.items

abbrev pub final_of : SiteLog → List Holding
final_of log = log.finals

-- those of a bundle, site by site
abbrev pub initial_values : Parts → List (List Holding)
initial_values b = map initial_of b.sites

abbrev pub final_values : Parts → List (List Holding)
final_values b = map final_of b.sites

-- bundles of one system in a row: each is valid, and each one's initial values are the final values
-- of the one before
pub record IsChain (bundles : List Parts) : Type 0 where
  pub valid : All IsValid bundles
  pub goes_on : (n : ℕ) (b c : Parts) → slice_get bundles n ≡ Some b
      → slice_get bundles (suc n) ≡ Some c → initial_values c ≡ final_values b

-- the final values of the last of them, where there is one
abbrev pub values_behind : List Parts → Option (List (List Holding))
values_behind bundles = option_map final_values (slice_get bundles (length bundles - 1))
