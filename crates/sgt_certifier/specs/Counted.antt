-- The table of counts: how often each item of a site was installed. Words of private clauses alone.
use Rattle.std.specs.Prelude.{◌≡◌, ◌≢◌, ℕ, suc, List, [], Option, Some, None, IsSome, All, Contains, slice_get}
use Rattle.sgt_names.specs.Name.{Name}
use Rattle.sgt_certifier.specs.Row.{found_in, or_zero}
use Rattle.sgt_certifier.specs.declared.call.Call.{Call}
use Rattle.sgt_certifier.specs.declared.counts.Counts.{Counts}
use Rattle.sgt_certifier.specs.declared.row.ItemCount.{ItemCount}
use Rattle.sgt_certifier.specs.declared.install.Prepared.{Prepared}
use Rattle.sgt_certifier.specs.History.{counted}

-- the counts of a site: none where it has no row
abbrev pub or_nothing : Option (List ItemCount) → List ItemCount
or_nothing None = []
or_nothing (Some row) = row

abbrev pub row_at : Counts → ℕ → List ItemCount
row_at counts site = or_nothing (slice_get counts.rows.items site)

-- what stands in the table for an item of a site
abbrev pub stands_at : Counts → ℕ → Name → Option ℕ
stands_at counts site item = found_in (row_at counts site) item

abbrev pub count_at : Counts → ℕ → Name → ℕ
count_at counts site item = or_zero (stands_at counts site item)

abbrev pub HasPlace : Counts → ℕ → Name → Type 0
HasPlace counts site item = IsSome (stands_at counts site item)

-- each item of a list that was made in advance has its place
abbrev pub HavePlaces : Counts → Prepared → Type 0
HavePlaces counts p = All (HasPlace counts p.site) p.items

-- places were added, and no count changed
pub record Widens (old new : Counts) : Type 0 where
  pub same : (s : ℕ) (x : Name) → count_at new s x ≡ count_at old s x
  pub kept : (s : ℕ) (x : Name) → HasPlace old s x → HasPlace new s x

-- one install of each of the items at the site was added
pub record CountsEach (site : ℕ) (items : List Name) (old new : Counts) : Type 0 where
  pub hit : (x : Name) → Contains items x → count_at new site x ≡ suc (count_at old site x)
  pub miss : (x : Name) → (Contains items x → ⊥) → count_at new site x ≡ count_at old site x
  pub other : (s : ℕ) (x : Name) → s ≢ site → count_at new s x ≡ count_at old s x
  pub kept : (s : ℕ) (x : Name) → HasPlace old s x → HasPlace new s x

-- the counts are those of the history, and the items of the lists that were made in advance have
-- their places
pub record AreCounted (counts : Counts) (history : List Call) (expected : List Prepared) : Type 0 where
  pub exact : (s : ℕ) (x : Name) → count_at counts s x ≡ counted history s x
  pub placed : All (HavePlaces counts) expected
