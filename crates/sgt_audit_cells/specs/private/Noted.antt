-- What the code does to a cell, and asks of it.
use Rattle.std.specs.Prelude.{◌≡◌, ℕ, ◌≤◌, ◌+◌, ◌%◌, ◌^◌, max, List, Option, Some, None, slice_get}
use Rattle.sgt_names.specs.Name.{Name}
use Rattle.sgt_names.specs.Entry.{item_of}
use Rattle.sgt_names.specs.declared.entry.Entry.{Entry}
use Rattle.sgt_names.specs.declared.entry.Entry.TheVariants.{Read, Write, Add, Want, WantAdd}
use Rattle.sgt_audit_cells.specs.declared.cell.Cell.{Cell}

-- the place of the entry's item among the names, or it has none
abbrev pub IsPlaceOf : List Name → Entry → Option ℕ → Type 0
IsPlaceOf ns e None = item_of e ≡ None
IsPlaceOf ns e (Some i) = (x : Name) × (slice_get ns i ≡ Some x) × (item_of e ≡ Some x)

-- the greatest is no greater than this one
abbrev pub IsUpTo : ℕ → Option ℕ → Type 0
IsUpTo rank None = Unit {0}
IsUpTo rank (Some top) = top ≤ rank

-- no conflicting entry of greater rank was met
abbrev pub Passes : Cell → Entry → Option ℕ → Type 0
Passes c e None = Unit {0}
Passes c (Read tx x v) (Some rank) = IsUpTo rank c.writer × IsUpTo rank c.adder
Passes c (Write tx x v) (Some rank) = IsUpTo rank c.reader × IsUpTo rank c.writer × IsUpTo rank c.adder
Passes c (Want tx x v) (Some rank) = IsUpTo rank c.reader × IsUpTo rank c.writer × IsUpTo rank c.adder
Passes c (Add tx x v) (Some rank) = IsUpTo rank c.reader × IsUpTo rank c.writer
Passes c (WantAdd tx x v) (Some rank) = IsUpTo rank c.reader × IsUpTo rank c.writer
Passes c _ (Some rank) = Unit {0}

abbrev pub raised : Option ℕ → Option ℕ → Option ℕ
raised top None = top
raised None (Some rank) = Some rank
raised (Some top) (Some rank) = Some (max top rank)

-- the cell after one more entry on its item
abbrev pub noted : Cell → Entry → Option ℕ → Cell
noted c (Read tx x v) rank = record c { reader = raised c.reader rank }
noted c (Write tx x v) rank = record c { value = v; writer = raised c.writer rank }
noted c (Want tx x v) rank = record c { writer = raised c.writer rank }
noted c (Add tx x v) rank = record c { value = (c.value + v) % 2 ^ 64; adder = raised c.adder rank }
noted c (WantAdd tx x v) rank = record c { adder = raised c.adder rank }
noted c _ rank = c
