-- What is said of one transaction's conflicts.
use Rattle.std.specs.Prelude.{◌≡◌, ◌≢◌, ◌-◌, ◌<◌, ◌≤◌, ◌⊎◌, ℕ, List, [], ◌++◌, All, AllPairs, Contains, Option, Some, IfSome, codes, decimal, flat_map, length, min, take, if◌then◌else◌, nat_lt, ◌==◌}
use Rattle.sgt_names.specs.Entry.{tx_of, Clash}
use Rattle.sgt_names.specs.declared.entry.Kind.{Kind}
use Rattle.sgt_notation.specs.declared.SectionLine.{SectionLine}
use Rattle.sgt_explain_lines.specs.Sited.{StandsAt}
use Rattle.sgt_explain_lines.specs.Told.{conflict_text}
use Rattle.sgt_explain_transaction.specs.declared.conflicts.Pair.{Pair}

-- the two entries, of two transactions, are in conflict on the item
pub record IsClash (p : Pair) : Type 0 where
  pub kind : Kind
  pub clash : Clash kind p.item p.first.entry p.second.entry
  pub apart : tx_of p.first.entry ≢ tx_of p.second.entry

-- two entries in conflict on the item, in the order of the log, of which one is the transaction's; where the lines
-- are known, both stand in them, at the site and in the lines of their numbers
pub record IsOwnConflict (known : Option (List SectionLine)) (tx : ℕ) (p : Pair) : Type 0 where
  pub clashes : IsClash p
  pub order : p.first.line ≤ p.second.line
  pub own : (tx_of p.first.entry ≡ tx) ⊎ (tx_of p.second.entry ≡ tx)
  pub there : IfSome known (λ lines. StandsAt lines p.site p.first × StandsAt lines p.site p.second)

-- of a conflict of the transaction, the line of its own entry and that of the other's
abbrev pub own_line : ℕ → Pair → ℕ
own_line tx p = if tx_of p.first.entry == tx then p.first.line else p.second.line

abbrev pub other_line : ℕ → Pair → ℕ
other_line tx p = if tx_of p.first.entry == tx then p.second.line else p.first.line

-- conflicts are told by the line of the other's entry, and those of one such entry by the line of its own
abbrev pub IsToldBefore : ℕ → (p q : Pair) → Type 0
IsToldBefore tx p q = (other_line tx p < other_line tx q)
    ⊎ ((other_line tx p ≡ other_line tx q) × (own_line tx p < own_line tx q))

-- these are all conflicts of the transaction in the lines, each once, in the order in which they are told
pub record AreConflicts (lines : List SectionLine) (tx : ℕ) (pairs : List Pair) : Type 0 where
  pub each : All (IsOwnConflict (Some lines) tx) pairs
  pub all : (p : Pair) → IsOwnConflict (Some lines) tx p → Contains pairs p
  pub order : AllPairs (IsToldBefore tx) pairs

-- ---- in words

abbrev pub pair_text : Pair → List ℕ
pair_text p = codes "  " ++ (conflict_text p.site p.item p.first p.second ++ codes "\n")

abbrev pub pairs_text : List Pair → List ℕ
pairs_text pairs = flat_map pair_text pairs

-- that there is none, or how many there are behind forty
abbrev pub count_text : ℕ → List ℕ
count_text n = if n == 0 then codes "  with nobody\n"
    else (if nat_lt 40 n then codes "  and " ++ (decimal (n - 40) ++ codes " more\n") else [])

-- the first forty are shown, and the others counted. No count goes beyond 2^64 - 1
abbrev pub conflicts_text : List Pair → List ℕ
conflicts_text pairs = pairs_text (take 40 pairs) ++ count_text (min (length pairs) 18446744073709551615)
