-- What a site keeps in its fields, beside what every site keeps.
use Rattle.std.specs.Prelude.{◌≡◌, ◌≢◌, ◌↔◌, ℕ, ◌<◌, List, length, Option, Some, None, All, AllPairs, Contains}
use Rattle.std.specs.Option.{ForSome}
use Rattle.std.specs.Ordering.{nat_cmp}
use Rattle.sgt_names.specs.Ordered.{IsRisingBy}
use Rattle.sgt_names.specs.Log.{names, value_at}
use Rattle.sgt_names.specs.declared.draft.Touch.{Touch}
use Rattle.sgt_names.specs.declared.entry.Entry.{Entry}
use Rattle.sgt_names.specs.declared.entry.Holding.{Holding}
use Rattle.sgt_site.specs.State.{Pledge, SiteState, IsSite, HasEnded, LogsRead, writers_of, IsReader}
use Rattle.sgt_site.specs.private.Cells.{Contents, items_of, IsTouched}
use Rattle.sgt_site.specs.declared.cell.Install.{Install}
use Rattle.sgt_site.specs.declared.cell.Reader.{Reader}
use Rattle.sgt_site.specs.declared.readings.Reading.{Reading}

-- a cell has what the log says of its item
pub record IsCell (items : List Holding) (installed : List Install) (entries : List Entry) (c : Contents) : Type 0 where
  pub value : value_at items entries c.item ≡ Some c.value
  pub writers : c.writers ≡ writers_of installed entries c.item
  pub readers : (r : Reader) → Contains c.readers r ↔ IsReader installed entries c.item r
  pub readers_once : AllPairs (λ a b. a.tx ≢ b.tx) c.readers
  pub readings : (m : Reading)
      → Contains c.readings m ↔ LogsRead entries m.tx c.item m.seen.value m.seen.version

-- how many more entries and ended transactions fit
pub record Spare : Type 0 where
  pub log : ℕ
  pub ended : ℕ

-- there is room for the block and the lists of what a pledge covers
pub record HasRoom (part : List Touch) (cells : List Contents) (spare : Spare) : Type 0 where
  pub log : length part < spare.log
  pub ended : 0 < spare.ended
  pub touched : All (λ c. IsTouched part c.item → 0 < c.has_room) cells

-- the pledge that stands
abbrev pub pledge_of : Option ℕ → List Touch → Option Pledge
pledge_of None part = None
pledge_of (Some tx) part = Some (record { tx = tx; part = part })

-- what every site keeps, in its state and in its fields
pub record IsKept (s : SiteState) (cells : List Contents) (ended : List ℕ) (spare : Spare) : Type 0 where
  pub site : IsSite s
  pub names_same : items_of cells ≡ names s.items
  pub each : All (IsCell s.items s.installed s.entries) cells
  -- the transactions that have ended, rising
  pub ends_rise : IsRisingBy (λ t. t) nat_cmp ended
  pub ends : (tx : ℕ) → Contains ended tx ↔ HasEnded s.entries tx
  pub room : ForSome s.pledge (λ p. HasRoom p.part cells spare)
