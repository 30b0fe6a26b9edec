-- Entries whose items are told by their numbers in a list.
use Rattle.std.specs.Prelude.{◌≡◌, ℕ, ◌<◌, List, [], length, Option, Some, None, slice_get}
use Rattle.sgt_names.specs.Name.{Name}
use Rattle.sgt_names.specs.declared.entry.Entry.{Entry}
use Rattle.sgt_names.specs.declared.entry.Entry.TheVariants as entry
use Rattle.sgt_compact_entry.specs.declared.entry.CompactEntry.{CompactEntry}
use Rattle.sgt_compact_entry.specs.declared.entry.Act.{Act}
use Rattle.sgt_compact_entry.specs.declared.entry.Act.TheVariants.{Read, Write, Add, Want, WantAdd, Commit, Refuse, Withdraw}

-- the item that is found, and no name where none is
abbrev pub or_none : Option Name → Name
or_none None = []
or_none (Some x) = x

-- the entry of a transaction that says this, of an item and a value if it is of any
abbrev pub entry_of : Act → ℕ → Name → ℕ → Entry
entry_of Read tx x v = entry.Read tx x v
entry_of Write tx x v = entry.Write tx x v
entry_of Add tx x v = entry.Add tx x v
entry_of Want tx x v = entry.Want tx x v
entry_of WantAdd tx x v = entry.WantAdd tx x v
entry_of Commit tx x v = entry.Commit tx
entry_of Refuse tx x v = entry.Refuse tx
entry_of Withdraw tx x v = entry.Withdraw tx

-- the entry that is meant
abbrev pub named : List Name → CompactEntry → Entry
named items c = entry_of c.act c.tx (or_none (slice_get items c.item)) c.value

-- there is an item of this number, where the act is on one
abbrev pub HasNumber : Act → ℕ → List Name → Type 0
HasNumber Commit n items = Unit {0}
HasNumber Refuse n items = Unit {0}
HasNumber Withdraw n items = Unit {0}
HasNumber _ n items = n < length items

abbrev pub IsNumbered : List Name → CompactEntry → Type 0
IsNumbered items c = HasNumber c.act c.item items

-- the number of this item, if there is an item
abbrev pub IsNumberOf : List Name → Option Name → ℕ → Type 0
IsNumberOf items None n = Unit {0}
IsNumberOf items (Some x) n = slice_get items n ≡ Some x
