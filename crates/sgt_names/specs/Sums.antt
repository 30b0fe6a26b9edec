-- What increments add to an item.
-- (Used by the laws of a log's values.)
use Rattle.std.specs.Prelude.{◌≡◌, ℕ, ◌+◌, List, [], ◌∷◌, if◌then◌else◌}
use Rattle.std.specs.Str.{bytes_eq}
use Rattle.sgt_names.specs.Name.{Name}
use Rattle.sgt_names.specs.declared.entry.Entry.{Entry}
use Rattle.sgt_names.specs.declared.entry.Entry.TheVariants.{Write, Add}

-- the sum of what the entries add to the item
abbrev pub sum_added : Name → List Entry → ℕ
sum_added x [] = 0
sum_added x (Add tx y v ∷ es) = (if bytes_eq y x then v else 0) + sum_added x es
sum_added x (_ ∷ es) = sum_added x es

-- the entry is a write of the item
abbrev pub Overwrites : Name → Entry → Type 0
Overwrites x (Write tx y v) = y ≡ x
Overwrites x _ = ⊥
