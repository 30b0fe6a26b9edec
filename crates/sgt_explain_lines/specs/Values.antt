-- The value of an item after some entries of a section, the entry that made it, and up to which line it had another
-- one.
use Rattle.std.specs.Prelude.{◌≡◌, ℕ, ◌-◌, ◌<◌, ◌≤◌, List, length, map, fold, take, slice_get, Option, Some, None, is_some, if◌then◌else◌}
use Rattle.sgt_names.specs.Name.{Name}
use Rattle.sgt_names.specs.Entry.{change_of}
use Rattle.sgt_names.specs.Log.{value_after}
use Rattle.sgt_names.specs.declared.entry.Entry.{Entry}
use Rattle.sgt_names.specs.declared.entry.Holding.{Holding}
use Rattle.sgt_explain_lines.specs.declared.section.Logged.{Logged}
use Rattle.sgt_explain_lines.specs.declared.section.Stated.{Stated}

-- items and entries, without the numbers of their lines
abbrev pub holdings_of : List Stated → List Holding
holdings_of items = map (λ s. s.holding) items

abbrev pub entries_of : List Logged → List Entry
entries_of entries = map (λ l. l.entry) entries

-- the entry that last changed the item, after one more
abbrev pub latest : Name → Option Logged → Logged → Option Logged
latest x found l = if is_some (change_of x l.entry) then Some l else found

-- the last of these entries that changes the item, with its line
abbrev pub last_change : Name → List Logged → Option Logged
last_change x entries = fold (latest x) None entries

-- the line says that the item has this value at first
abbrev pub stated_as : ℕ → Name → ℕ → Stated
stated_as n x v = record { line = n; holding = record { item = x; value = v } }

-- with the first value the item has this one behind so many of the entries
abbrev pub HasBehind : Option ℕ → List Logged → Name → (value count : ℕ) → Type 0
HasBehind first entries x v n = value_after first (entries_of (take n entries)) x ≡ Some v

-- the last place where the item has the value is before an entry, whose line follows this one; none where it never
-- has it
abbrev pub HadUntil : Option ℕ → List Logged → Name → ℕ → Option ℕ → Type 0
HadUntil first entries x v (Some line) = (p : ℕ) × (l : Logged) × (slice_get entries p ≡ Some l) × (line ≡ l.line - 1)
    × HasBehind first entries x v p × ((q : ℕ) → p < q → q ≤ length entries → HasBehind first entries x v q → ⊥)
HadUntil first entries x v None = (q : ℕ) → q ≤ length entries → HasBehind first entries x v q → ⊥
