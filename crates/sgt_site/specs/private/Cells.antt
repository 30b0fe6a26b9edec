-- What a site keeps of each item.
use Rattle.std.specs.Prelude.{◌≡◌, ◌↔◌, ◌⊎◌, ℕ, Bool, true, false, ◌<◌, ◌≤◌, List, [], ◌++◌, length, map, Option, Some, None, Any, AllPairs, Contains, IsSome, find, option_map, option_and_then, slice_get, set}
use Rattle.std.specs.List.{insert}
use Rattle.std.specs.Option.{option_to_list, ForSome}
use Rattle.std.specs.Str.{bytes_eq}
use Rattle.std.specs.Ordering.{nat_cmp}
use Rattle.std.specs.Cmp.Lexicographic.{slice_cmp}
use Rattle.sgt_names.specs.Name.{Name}
use Rattle.sgt_names.specs.Ordered.{IsRisingBy}
use Rattle.sgt_names.specs.Log.{value_with_any}
use Rattle.sgt_names.specs.declared.draft.Seen.{Seen}
use Rattle.sgt_names.specs.declared.draft.Touch.{Touch}
use Rattle.sgt_names.specs.declared.entry.Change.{Change}
use Rattle.sgt_names.specs.declared.entry.Change.TheVariants.{Put, Add}
use Rattle.sgt_names.specs.declared.entry.Holding.{Holding}
use Rattle.sgt_site.specs.State.{IsVersionWritten}
use Rattle.sgt_site.specs.declared.cell.Install.{Install}
use Rattle.sgt_site.specs.declared.cell.Writer.{Writer}
use Rattle.sgt_site.specs.declared.cell.Reader.{Reader}
use Rattle.sgt_site.specs.declared.readings.Reading.{Reading}

-- what is kept of an item: its present value, its writers, its committed readers, its reads by
-- whomever, and how many more
-- writers and readers fit
pub record Contents : Type 0 where
  pub item : Name
  pub value : ℕ
  pub writers : List Writer
  pub readers : List Reader
  pub readings : List Reading
  pub has_room : ℕ

-- the version that the last write made is known, and the readers stand by rising version
pub record IsOrdered (writers : List Writer) (written : ℕ) (readers : List Reader) : Type 0 where
  pub last : IsVersionWritten writers written
  pub by_version : AllPairs (λ a b. a.version ≤ b.version) readers

-- the items of the cells, and these with their present values
abbrev pub items_of : List Contents → List Name
items_of cells = map (λ c. c.item) cells

abbrev pub values_of : List Contents → List Holding
values_of cells = map (λ c. record { item = c.item; value = c.value }) cells

-- how often each item was written or added to
abbrev pub versions_of : List Contents → List ℕ
versions_of cells = map (λ c. length c.writers) cells

-- the cells rise by the names of their items
abbrev pub CellsRise : List Contents → Type 0
CellsRise cells = IsRisingBy (λ c. c.item) (slice_cmp nat_cmp) cells

-- they do, and these are their versions
pub record AreCells (cells : List Contents) (versions : List ℕ) : Type 0 where
  pub rising : CellsRise cells
  pub counted : versions ≡ versions_of cells

-- reads by rising transaction
abbrev pub AreReadings : List Reading → Type 0
AreReadings readings = IsRisingBy (λ m. m.tx) nat_cmp readings

-- the transaction has one of these reads
abbrev pub IsAnswering : List Reading → ℕ → Type 0
IsAnswering readings tx = (seen : Seen) × Contains readings (record { tx = tx; seen = seen })

-- this read and the old ones
abbrev pub ReadsAlso : List Reading → List Reading → Reading → Type 0
ReadsAlso old new made = (m : Reading) → Contains new m ↔ ((m ≡ made) ⊎ Contains old m)

-- what a read of the item answers: its value and its version
abbrev pub answer_of : Contents → Seen
answer_of c = record { value = c.value; version = length c.writers }

-- the new cell is the old one with the transaction's read
pub record IsAnswered (old new : Contents) (tx : ℕ) : Type 0 where
  pub same : new ≡ record old { readings = new.readings }
  pub reads : ReadsAlso old.readings new.readings (record { tx = tx; seen = answer_of old })

-- the cell at a place answers the transaction's read of its item, and the others stay
pub record AnswersAt (old new : List Contents) (n tx : ℕ) (seen : Seen) : Type 0 where
  pub cell : Contents
  pub answered : Contents
  pub at : slice_get old n ≡ Some cell
  pub is : seen ≡ answer_of cell
  pub reads : IsAnswered cell answered tx
  pub others : new ≡ set old n answered

-- the touched items of one site rise by their names, so each is touched once
abbrev pub ItemsRise : List Touch → Type 0
ItemsRise part = IsRisingBy (λ (t : Touch). t.item) (slice_cmp nat_cmp) part

-- how an item is touched, if it is
abbrev pub touch_in : List Touch → Name → Option Touch
touch_in part x = find (λ t. bytes_eq t.item x) part

abbrev pub IsTouched : List Touch → Name → Type 0
IsTouched part x = IsSome (touch_in part x)

-- a cell of an item that nobody has changed or read
pub record IsFresh (c : Contents) : Type 0 where
  pub writers : c.writers ≡ []
  pub readers : c.readers ≡ []
  pub readings : c.readings ≡ []

-- each cell was changed so
pub record AreChanged (R : Contents → Contents → Type 0) (old new : List Contents) : Type 0 where
  pub as_many : length new ≡ length old
  pub each : (n : ℕ) (c d : Contents) → slice_get old n ≡ Some c → slice_get new n ≡ Some d → R c d

-- the cell at a place was changed so, and the others stay
pub record ChangesAt (R : Contents → Contents → Type 0) (n : ℕ) (old new : List Contents) : Type 0 where
  pub before : Contents
  pub after : Contents
  pub at : slice_get old n ≡ Some before
  pub changed : R before after
  pub others : new ≡ set old n after

-- one of the cells is of the item
abbrev pub HasItem : List Contents → Name → Type 0
HasItem cells x = Contains (items_of cells) x

-- the transaction's read of the item is in the cells, and was answered so
abbrev pub InCells : List Contents → ℕ → Name → Seen → Type 0
InCells cells tx x seen =
    Any (λ c. (c.item ≡ x) × Contains c.readings (record { tx = tx; seen = seen })) cells

-- the cell has the read that the touched item keeps, if it keeps one
abbrev pub HasSeen : ℕ → Touch → Contents → Type 0
HasSeen tx t c = ForSome t.seen (λ s. Contains c.readings (record { tx = tx; seen = s }))

-- the touched item is in the cells, and so is the transaction's read that it keeps, if it keeps one
abbrev pub IsThere : List Contents → ℕ → Touch → Type 0
IsThere cells tx t = HasItem cells t.item × ForSome t.seen (InCells cells tx t.item)

-- a read of the item of the site is kept
abbrev pub KeepsItem : List Touch → ℕ → Name → Type 0
KeepsItem touched number x = Any (λ t. (t.site ≡ number) × IsSome t.seen × (t.item ≡ x)) touched

-- the same cell, with as much room or more
abbrev pub SameButRoom : Contents → Contents → Type 0
SameButRoom old new = (new ≡ record old { has_room = new.has_room }) × (old.has_room ≤ new.has_room)

-- the same cell, with room for one more writer and reader
abbrev pub HasPlace : Contents → Contents → Type 0
HasPlace old new = SameButRoom old new × (0 < new.has_room)

-- whether the change adds
abbrev pub adds : Change → Bool
adds (Put v) = false
adds (Add v) = true

-- the change that a touched item asks for, and the read that it keeps
abbrev pub change_in : Option Touch → Option Change
change_in touch = option_and_then (λ t. t.change) touch

abbrev pub seen_in : Option Touch → Option Seen
seen_in touch = option_and_then (λ t. t.seen) touch

-- the writer that a change makes
abbrev pub noted_writers : Install → Option Change → List Writer
noted_writers i change =
    option_to_list
    (option_map (λ c. record { tx = i.tx; handle = i.handle; increment = adds c }) change)

-- a kept read makes a reader, somewhere among the others
abbrev pub AddsReader : Install → Option Seen → List Reader → List Reader → Type 0
AddsReader i None old new = new ≡ old
AddsReader i (Some s) old new = (n : ℕ)
    × (new ≡ insert old n (record { tx = i.tx; handle = i.handle; version = s.version }))

-- the new cell is the old one after the commit, which touches its item so
pub record IsNoted (i : Install) (touch : Option Touch) (old new : Contents) : Type 0 where
  pub item : new.item ≡ old.item
  pub value : Some new.value ≡ value_with_any (Some old.value) (change_in touch)
  pub writers : new.writers ≡ old.writers ++ noted_writers i (change_in touch)
  pub readers : AddsReader i (seen_in touch) old.readers new.readers
  pub readings : new.readings ≡ old.readings

-- the cell is noted where it is of the touched item, and else is as it was
pub record NotesItem (i : Install) (t : Touch) (old new : Contents) : Type 0 where
  pub item : new.item ≡ old.item
  pub here : old.item ≡ t.item → IsNoted i (Some t) old new
  pub other : (old.item ≡ t.item → ⊥) → new ≡ old
