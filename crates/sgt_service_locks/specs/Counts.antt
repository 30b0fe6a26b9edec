-- What a seat counts of the entries that were written to the sites' logs.
use Rattle.std.specs.Prelude.{◌≡◌, ℕ, zero, suc, ◌+◌, ◌-◌, ◌^◌, ◌==◌, ◌&&◌, Bool, is_some, nat_lt, min, List, [], ◌∷◌, length, Some, slice_get, if◌then◌else◌}
use Rattle.sgt_names.specs.Draft.{at_site, writing_in}
use Rattle.sgt_names.specs.declared.draft.Touch.{Touch}
use Rattle.sgt_workers.specs.declared.ticket.Ending.{Ending}
use Rattle.sgt_workers.specs.declared.ticket.Ending.TheVariants.{Withdrawn}
use Rattle.sgt_service_agreement.specs.declared.counts.EntryCounts.{EntryCounts}

-- a count of 64 bits stays at its greatest number
abbrev pub capped : ℕ → ℕ
capped n = min n (2 ^ 64 - 1)

-- after one more logged read, and after so many more other entries
abbrev pub with_read : EntryCounts → EntryCounts
with_read c = record c { reads = capped (c.reads + 1) }

abbrev pub with_others : ℕ → EntryCounts → EntryCounts
with_others zero c = c
with_others (suc n) c = record c { others = capped (c.others + suc n) }

-- the counts of each site have become what the function tells of it
abbrev pub AreCounted : (ℕ → EntryCounts → EntryCounts) → List EntryCounts → List EntryCounts
    → Type 0
AreCounted f old new =
    (length new ≡ length old)
    × ((site : ℕ) (c : EntryCounts) → slice_get old site ≡ Some c
    → slice_get new site ≡ Some (f site c))

-- the change at one site alone
abbrev pub only_at : ℕ → (EntryCounts → EntryCounts) → ℕ → EntryCounts → EntryCounts
only_at here f site c = if site == here then f c else c

-- how many entries the block has that ends a transaction so at a site where it touches these items:
-- none where it touches none,
-- else its end, behind its changes if it was decided
abbrev pub block_length : Ending → List Touch → ℕ
block_length verdict [] = 0
block_length Withdrawn (t ∷ ts) = 1
block_length _ (t ∷ ts) = suc (length (writing_in (t ∷ ts)))

-- at each site, for a transaction with this draft; and at the sites below one
abbrev pub blocks_of : Ending → List Touch → ℕ → ℕ
blocks_of verdict touched site = block_length verdict (at_site site touched)

abbrev pub below : ℕ → (ℕ → ℕ) → ℕ → ℕ
below end lengths site = if nat_lt site end then lengths site else 0

-- the item is of the site; and it is changed
abbrev pub is_at : ℕ → Touch → Bool
is_at site t = t.site == site

abbrev pub is_changed_at : ℕ → Touch → Bool
is_changed_at site t = (t.site == site) && is_some t.change
