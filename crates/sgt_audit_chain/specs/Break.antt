-- Where a bundle doesn't go on from the values that one before it left.
use Rattle.std.specs.Prelude.{◌≡◌, ◌≢◌, ℕ, ◌+◌, List, length, map, take, Option, Some, None, slice_get}
use Rattle.sgt_names.specs.declared.entry.Holding.{Holding}
use Rattle.sgt_bundle.specs.Text.{sections_from}
use Rattle.sgt_bundle.specs.declared.bundle.SiteLog.{SiteLog}
use Rattle.sgt_audit_chain.specs.Chain.{initial_of}

-- the line of a bundle's text on which the section of this site begins, or would begin
abbrev pub site_line : List SiteLog → ℕ → ℕ
site_line sites k = length (sections_from 0 (take k sites)) + 3

-- the items of a site, where the one before left these: the line of the site, where it wasn't there
-- before; the line behind the last site, where it is missing; or the line of the first item, or
-- behind the items, that isn't the item that was left in its place, with its value
abbrev pub BreaksHere : (items left : Option (List Holding)) → (site_line line : ℕ) → Type 0
BreaksHere None None here line = ⊥
BreaksHere (Some items) None here line = line ≡ here
BreaksHere None (Some left) here line = line ≡ here
BreaksHere (Some items) (Some left) here line = (place : ℕ)
    × (take place items ≡ take place left) × (slice_get items place ≢ slice_get left place)
    × (line ≡ here + place + 1)

-- the first line of a bundle that doesn't go on from these values
pub record FirstBreak (left : List (List Holding)) (sites : List SiteLog) (line : ℕ) : Type 0 where
  pub site : ℕ
  -- the sites before it go on
  pub before : take site (map initial_of sites) ≡ take site left
  pub here : BreaksHere (slice_get (map initial_of sites) site) (slice_get left site)
      (site_line sites site) line
