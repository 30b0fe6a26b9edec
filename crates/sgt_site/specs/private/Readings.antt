-- The reads of an item, in the two parts that they are kept in.
use Rattle.std.specs.Prelude.{◌≡◌, ℕ, List, ◌++◌, map, None}
use Rattle.std.specs.BTreeMap.{BTreeMap, IsOrdered, get}
use Rattle.std.specs.Ordering.{nat_cmp}
use Rattle.sgt_names.specs.declared.draft.Seen.{Seen}
use Rattle.sgt_site.specs.declared.readings.Reading.{Reading}
use Rattle.sgt_site.specs.private.Cells.{AreReadings, IsAnswering}

abbrev pub late_reading : ℕ × Seen → Reading
late_reading e = record { tx = e.0; seen = e.1 }

-- those of the list, and those of the map
abbrev pub all_readings : List Reading → BTreeMap ℕ Seen → List Reading
all_readings front late = front ++ map late_reading late.entries

-- both rise by transaction, and none stands in both
pub record AreParted (front : List Reading) (late : BTreeMap ℕ Seen) : Type 0 where
  pub rising : AreReadings front
  pub ordered : IsOrdered nat_cmp late
  pub apart : (tx : ℕ) → IsAnswering front tx → get nat_cmp late tx ≡ None
