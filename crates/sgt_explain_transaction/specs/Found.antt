-- How a transaction's conflicts are found, for private clauses.
use Rattle.std.specs.Prelude.{◌≡◌, ℕ, ◌+◌, ◌-◌, List, ◌++◌, Bool, false, not, ◌&&◌, ◌||◌, Option, Some, None, if◌then◌else◌, flat_map, length, min, take, nat_lt, ◌==◌}
use Rattle.std.specs.List.{filter_map}
use Rattle.std.specs.List.Sorted.{IsSorted, IsStable, ties}
use Rattle.std.specs.Option.{option_cmp}
use Rattle.std.specs.Ordering.{is_lt, nat_cmp, ordering_then}
use Rattle.std.specs.declared.cmp.Ordering.{Ordering}
use Rattle.std.specs.Cmp.Lexicographic.{slice_cmp}
use Rattle.std.specs.Str.{bytes_eq}
use Rattle.sgt_names.specs.Name.{Name}
use Rattle.sgt_names.specs.Entry.{tx_of, item_of, is_increment}
use Rattle.sgt_names.specs.declared.entry.Entry.{Entry}
use Rattle.sgt_names.specs.declared.entry.Entry.TheVariants.{Read, Write, Add, Want, WantAdd}
use Rattle.sgt_notation.specs.declared.SectionLine.{SectionLine}
use Rattle.sgt_explain_lines.specs.declared.section.Logged.{Logged}
use Rattle.sgt_explain_lines.specs.Sited.{HasBefore}
use Rattle.sgt_explain_transaction.specs.declared.conflicts.Pair.{Pair}
use Rattle.sgt_explain_transaction.specs.declared.dealings.Own.{Own}
use Rattle.sgt_explain_transaction.specs.Conflicts.{pairs_text}
use Rattle.sgt_explain_transaction.specs.Dealings.{entries_of}

-- ---- two entries

-- whether the entry reads the item, and whether it writes it
abbrev pub is_read : Name → Entry → Bool
is_read x (Read tx y v) = bytes_eq y x
is_read x _ = false

abbrev pub is_write : Name → Entry → Bool
is_write x (Write tx y v) = bytes_eq y x
is_write x (Add tx y v) = bytes_eq y x
is_write x (Want tx y v) = bytes_eq y x
is_write x (WantAdd tx y v) = bytes_eq y x
is_write x _ = false

-- whether the second is in conflict with the first on the item
abbrev pub is_clash : Name → Entry → Entry → Bool
is_clash x e f = (is_write x e && is_read x f) || ((is_read x e && is_write x f)
    || ((is_write x e && is_write x f) && not (is_increment e && is_increment f)))

-- the item that two entries of two transactions are in conflict on
abbrev pub clash_at : Option Name → Entry → Entry → Option Name
clash_at (Some x) e f = if not (tx_of e == tx_of f) && is_clash x e f then Some x else None
clash_at None e f = None

abbrev pub clash_item : Entry → Entry → Option Name
clash_item e f = clash_at (item_of e) e f

abbrev pub pair_on : ℕ → Logged → Logged → Option Name → Option Pair
pair_on site one other (Some x) = Some (record { site = site; item = x; first = one; second = other })
pair_on site one other None = None

-- the conflict of the second with the first
abbrev pub clash_of : ℕ → Logged → Logged → Option Pair
clash_of site one other = pair_on site one other (clash_item one.entry other.entry)

-- the conflict of an entry with one of the transaction's, in the order of their lines, if they stand at one site
abbrev pub conflict_with : Own → Own → Option Pair
conflict_with other own = if own.site == other.site
    then (if nat_lt own.logged.line other.logged.line then clash_of own.site own.logged other.logged
    else clash_of own.site other.logged own.logged) else None

-- ---- an entry with all of the transaction, and all of these with those

abbrev pub conflicts_with : List Own → Own → List Pair
conflicts_with own other = filter_map (conflict_with other) own

abbrev pub conflicts_among : (own read : List Own) → List Pair
conflicts_among own read = flat_map (conflicts_with own) read

-- the entries are those of the lines that the text has before the line of this number
abbrev pub AreEntriesBefore : List ℕ → ℕ → List Own → Type 0
AreEntriesBefore bytes number read = (lines : List SectionLine) → HasBefore bytes number lines → read ≡ entries_of lines

-- behind n conflicts these are told: the next of them are shown behind the old text until there are forty, and all
-- are counted. No count goes beyond 2^64 - 1
pub record ShowsMore (pairs : List Pair) (old : List ℕ) (n : ℕ) (new : List ℕ) (m : ℕ) : Type 0 where
  pub text : new ≡ old ++ pairs_text (take (40 - n) pairs)
  pub count : min m 18446744073709551615 ≡ min (n + length pairs) 18446744073709551615

-- ---- by site and item

abbrev pub item_cmp : Own → Own → Ordering
item_cmp one other = ordering_then (nat_cmp one.site other.site)
    (option_cmp (slice_cmp nat_cmp) (item_of one.logged.entry) (item_of other.logged.entry))

-- neither comes before the other: they are on one item of a site, or ends there
abbrev pub are_beside : Own → Own → Bool
are_beside one other = ties (λ x y. is_lt (item_cmp x y)) one other

-- the entries by site and item; those that are beside one another are in the order that they had
pub record AreByItem (own sorted : List Own) : Type 0 where
  pub rising : IsSorted item_cmp sorted
  pub stable : IsStable item_cmp own sorted
