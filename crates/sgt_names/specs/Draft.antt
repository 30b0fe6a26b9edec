-- What a transaction has read and is to change, before it is decided.
use Rattle.std.specs.Prelude.{◌≡◌, ℕ, ◌+◌, ◌%◌, ◌^◌, Bool, ◌&&◌, ◌==◌, List, ◌∷◌, ◌++◌, Option, Some, None, IsSome, IfSome, filter, find, Any, ◌⊎◌, option_map, option_and_then}
use Rattle.std.specs.List.{filter_map}
use Rattle.std.specs.Option.{option_to_list}
use Rattle.std.specs.Str.{bytes_eq}
use Rattle.std.specs.Ordering.{nat_cmp, ordering_then}
use Rattle.std.specs.Cmp.Lexicographic.{slice_cmp}
use Rattle.std.specs.declared.cmp.Ordering.{Ordering}
use Rattle.sgt_names.specs.Name.{Name}
use Rattle.sgt_names.specs.Ordered.{IsRisingBy}
use Rattle.sgt_names.specs.Log.{value_with_any}
use Rattle.sgt_names.specs.declared.entry.Change.{Change}
use Rattle.sgt_names.specs.declared.entry.Change.TheVariants.{Put, Add}
use Rattle.sgt_names.specs.declared.draft.Seen.{Seen}
use Rattle.sgt_names.specs.declared.draft.Touch.{Touch}

-- what contracts see of a draft: the items that it touches, by rising site and name, and whether
-- one more fits
pub record DraftView : Type 0 where
  pub touched : List Touch
  pub has_room : Bool

-- a site and the name of an item there
abbrev pub Place : Type 0
Place = ℕ × Name

-- places in order: by site, and then by the bytes of the name
abbrev pub place_cmp : Place → Place → Ordering
place_cmp p q = ordering_then (nat_cmp p.0 q.0) (slice_cmp nat_cmp p.1 q.1)

-- where a touched item is
abbrev pub place_of : Touch → Place
place_of t = (t.site, t.item)

-- the places of the touched items rise
abbrev pub AreRising : List Touch → Type 0
AreRising ts = IsRisingBy place_of place_cmp ts

-- the item is touched: it was read, or is to be changed
abbrev pub IsUsed : Touch → Type 0
IsUsed t = IsSome t.seen ⊎ IsSome t.change

-- the touched items of one site, by rising name
abbrev pub at_site : ℕ → List Touch → List Touch
at_site s ts = filter (λ t. t.site == s) ts

-- the kept read of a touched item, with its value and version
abbrev pub kept_of : Touch → Option (Name × ℕ × ℕ)
kept_of t = option_and_then (λ seen. Some (t.item, seen.value, seen.version)) t.seen

-- the private write or increment of a touched item
abbrev pub writing_of : Touch → Option (Name × Change)
writing_of t = option_and_then (λ c. Some (t.item, c)) t.change

-- the kept reads among these
abbrev pub kept_in : List Touch → List (Name × ℕ × ℕ)
kept_in ts = filter_map kept_of ts

-- the private writes and increments among these
abbrev pub writing_in : List Touch → List (Name × Change)
writing_in ts = filter_map writing_of ts

-- the touched item at a place
abbrev pub touched_at : List Touch → Place → Option Touch
touched_at ts p = find (λ t. (t.site == p.0) && bytes_eq t.item p.1) ts

-- the kept read at a place
abbrev pub seen_at : List Touch → Place → Option Seen
seen_at ts p = option_and_then (λ t. t.seen) (touched_at ts p)

-- the private write or increment at a place
abbrev pub change_at : List Touch → Place → Option Change
change_at ts p = option_and_then (λ t. t.change) (touched_at ts p)

-- a change with an increment behind it, as one change: of a write a write of the sum, of an
-- increment an increment by it
abbrev pub added_to : Option Change → ℕ → Change
added_to None v = Add v
added_to (Some (Put u)) v = Put ((u + v) % 2 ^ 64)
added_to (Some (Add u)) v = Add ((u + v) % 2 ^ 64)

-- what a transaction sees of its own: the value of the kept read, with the private change behind it
abbrev pub look_of : Touch → Option ℕ
look_of t = value_with_any (option_map (λ seen. seen.value) t.seen) t.change

-- the site is touched: an item of it was read, or is to be changed
abbrev pub Touches : List Touch → ℕ → Type 0
Touches ts s = Any (λ t. (t.site ≡ s) × IsUsed t) ts

-- the new list has this item touched so, in the place of what the old one had there, and is the old
-- one elsewhere
pub record ChangesOnly (old new : List Touch) (touch : Touch) : Type 0 where
  pub front : List Touch
  pub there : Option Touch
  pub rest : List Touch
  pub was : old ≡ front ++ (option_to_list there ++ rest)
  pub is : new ≡ front ++ touch ∷ rest
  pub place : IfSome there (λ t. place_of t ≡ place_of touch)
