-- The values of the items of all sites, as they are kept while transactions run.
use Rattle.std.specs.Prelude.{ℕ, List, AllPairs, Bool, ◌&&◌, ◌==◌, Option, Some, None, if◌then◌else◌, slice_get, option_and_then, fold}
use Rattle.std.specs.List.{filter_map}
use Rattle.std.specs.Str.{bytes_eq}
use Rattle.sgt_names.specs.Name.{Name}
use Rattle.sgt_names.specs.Log.{names, value_in, value_with}
use Rattle.sgt_names.specs.declared.entry.Change.{Change}
use Rattle.sgt_names.specs.declared.entry.Holding.{Holding}
use Rattle.sgt_bundle.specs.Parts.{ComesBefore}
use Rattle.sgt_bundle.specs.Serial.{Store}
use Rattle.sgt_serial.specs.declared.report.SiteChange.{SiteChange}

-- the items stand by rising name
abbrev pub IsRising : List Holding → Type 0
IsRising items = AllPairs ComesBefore (names items)

-- the store of these lists of items with their values, one of each site
abbrev pub store_of : List (List Holding) → Store
store_of values s x =
    option_and_then (λ (items : List Holding). value_in items x) (slice_get values s)

-- the change is of this item
abbrev pub is_of : ℕ → Name → SiteChange → Bool
is_of s x a = (a.site == s) && bytes_eq a.item x

-- the change, if it is of this item
abbrev pub change_in : ℕ → Name → SiteChange → Option Change
change_in s x a = if is_of s x a then Some a.change else None

-- the store with these changes made, one after another
abbrev pub with_all : List SiteChange → Store → Store
with_all changes store s x = fold value_with (store s x) (filter_map (change_in s x) changes)
