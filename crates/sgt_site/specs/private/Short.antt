-- Entries in 16 bytes.
use Rattle.std.specs.Prelude.{◌≡◌, ℕ, ◌/◌, ◌%◌, Bool, true, false, List, Option, Some, None, slice_get}
use Rattle.sgt_names.specs.Name.{Name}
use Rattle.sgt_names.specs.Entry.{item_of}
use Rattle.sgt_names.specs.declared.entry.Entry.{Entry}
use Rattle.sgt_arena.specs.declared.handle.Handle.{Handle}
use Rattle.sgt_compact_entry.specs.Compact.{IsNumbered, named}
use Rattle.sgt_compact_entry.specs.declared.entry.Act.{Act}
use Rattle.sgt_compact_entry.specs.declared.entry.Act.TheVariants.{Add, WantAdd, Commit}
use Rattle.sgt_compact_entry.specs.declared.entry.CompactEntry.{CompactEntry}
use Rattle.sgt_site.specs.declared.cell.Install.{Install}
use Rattle.sgt_site.specs.declared.entry_log.ShortEntry.{ShortEntry}

-- the same entry, not held short
abbrev pub whole : ShortEntry → CompactEntry
whole e = record { value = e.value; item = e.item; tx = e.tx; act = e.act }

-- the entry that is meant, and that there is an item of its number
abbrev pub meant : List Name → ShortEntry → Entry
meant items e = named items (whole e)

abbrev pub IsMeant : List Name → ShortEntry → Type 0
IsMeant items e = IsNumbered items (whole e)

-- two numbers of 32 bits, in one of 64
abbrev pub two_to_32 : ℕ
two_to_32 = 4294967296

-- the handle that a number holds
abbrev pub handle_in : ℕ → Handle
handle_in value = record { index = value % two_to_32; generation = value / two_to_32 }

-- the commit with its handle, if the entry is a commit
abbrev pub install_by : Act → ℕ → ℕ → Option Install
install_by Commit tx value = Some (record { tx = tx; handle = handle_in value })
install_by _ tx value = None

abbrev pub install_in : ShortEntry → Option Install
install_in e = install_by e.act e.tx e.value

-- an increment, or one that is asked for
abbrev pub adds_by : Act → Bool
adds_by Add = true
adds_by WantAdd = true
adds_by _ = false

-- the entry is of the item at this place
abbrev pub IsPlaced : List Name → Entry → ℕ → Type 0
IsPlaced items e n = (x : Name) × (item_of e ≡ Some x) × (slice_get items n ≡ Some x)
