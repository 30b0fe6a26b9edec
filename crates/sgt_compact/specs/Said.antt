-- What an entry says of its item.
use Rattle.std.specs.Prelude.{ℕ, Option, Some, None}
use Rattle.std.specs.Borrow.{Bor}
use Rattle.sgt_names.specs.Name.{Name}
use Rattle.sgt_names.specs.declared.entry.Entry.{Entry}
use Rattle.sgt_names.specs.declared.entry.Entry.TheVariants.{Read, Write, Add}

-- the item that is read, with the value
abbrev pub read_said : Entry → Option (Name × ℕ)
read_said (Read tx x v) = Some (x, v)
read_said _ = None

-- the item that is written, with the value
abbrev pub written_said : Entry → Option (Name × ℕ)
written_said (Write tx x v) = Some (x, v)
written_said _ = None

-- the item that is added to, with what is added
abbrev pub added_said : Entry → Option (Name × ℕ)
added_said (Add tx x v) = Some (x, v)
added_said _ = None

-- an item that is lent, and a value
abbrev pub lent : Option (Bor Name × ℕ) → Option (Name × ℕ)
lent None = None
lent (Some r) = Some (r.0.now, r.1)
