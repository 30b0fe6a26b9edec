-- The counts of one site.
use Rattle.std.specs.Prelude.{ℕ, List, [], ◌∷◌, Option, Some, None, if◌then◌else◌}
use Rattle.std.specs.Str.{bytes_eq}
use Rattle.std.specs.Ordering.{nat_cmp}
use Rattle.std.specs.Cmp.Lexicographic.{slice_cmp}
use Rattle.sgt_names.specs.Name.{Name}
use Rattle.sgt_names.specs.Ordered.{IsRisingBy}
use Rattle.sgt_certifier.specs.declared.row.ItemCount.{ItemCount}

-- the names of the items rise, so none comes twice
abbrev pub AreRising : List ItemCount → Type 0
AreRising counts = IsRisingBy (λ c. c.item) (slice_cmp nat_cmp) counts

-- the count of the item, if it has one
abbrev pub found_in : List ItemCount → Name → Option ℕ
found_in [] x = None
found_in (c ∷ cs) x = if bytes_eq c.item x then Some c.count else found_in cs x

-- 0 where nothing stands
abbrev pub or_zero : Option ℕ → ℕ
or_zero None = 0
or_zero (Some n) = n

-- how often the item was installed
abbrev pub count_in : List ItemCount → Name → ℕ
count_in counts x = or_zero (found_in counts x)
