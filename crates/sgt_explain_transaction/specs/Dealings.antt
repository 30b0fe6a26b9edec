-- What is said of one transaction's entries, site by site.
use Rattle.std.specs.Prelude.{◌≡◌, ◌≢◌, ◌⊎◌, ◌↔◌, Bool, IsTrue, ℕ, ◌+◌, List, [], ◌∷◌, ◌++◌, All, codes, decimal, Option, Some, None, if◌then◌else◌, ◌==◌}
use Rattle.std.specs.List.{filter, filter_map, enumerate_from}
use Rattle.sgt_names.specs.Entry.{tx_of}
use Rattle.sgt_names.specs.declared.entry.Entry.{Entry}
use Rattle.sgt_notation.specs.declared.SectionLine.{SectionLine}
use Rattle.sgt_explain_lines.specs.Numbered.{entry_in}
use Rattle.sgt_explain_lines.specs.Sited.{HasBefore, site_at}
use Rattle.sgt_explain_lines.specs.Told.{Adds, shown_line}
use Rattle.sgt_explain_transaction.specs.declared.conflicts.Pair.{Pair}
use Rattle.sgt_explain_transaction.specs.declared.dealings.Own.{Own}
use Rattle.sgt_explain_transaction.specs.Conflicts.{AreConflicts, IsOwnConflict, conflicts_text, pairs_text}

-- an entry with its site and the number of its line
abbrev pub entry_from : (site line : ℕ) → Option Entry → Option Own
entry_from site line (Some e) = Some (record { site = site; logged = record { line = line; entry = e } })
entry_from site line None = None

-- the entry of the line at a place, with the site that is open there
abbrev pub entry_at : List SectionLine → ℕ × SectionLine → Option Own
entry_at lines (place, line) = entry_from (site_at lines place) (place + 3) (entry_in line)

-- all entries of these lines, in their order
abbrev pub entries_of : List SectionLine → List Own
entries_of lines = filter_map (entry_at lines) (enumerate_from 0 lines)

abbrev pub IsOwn : ℕ → Own → Type 0
IsOwn tx own = tx_of own.logged.entry ≡ tx

abbrev pub is_own : ℕ → Own → Bool
is_own tx own = tx_of own.logged.entry == tx

-- those of the transaction
abbrev pub own_of : ℕ → List SectionLine → List Own
own_of tx lines = filter (is_own tx) (entries_of lines)

-- the site, where it isn't the one before it
abbrev pub site_if_new : Option ℕ → ℕ → List ℕ
site_if_new None site = codes "site " ++ (decimal site ++ codes "\n")
site_if_new (Some last) site = if last == site then [] else codes "site " ++ (decimal site ++ codes "\n")

abbrev pub one_text : Option ℕ → Own → List ℕ
one_text last own = site_if_new last own.site ++ (shown_line own.logged ++ codes "\n")

-- the entries, each behind its site where that isn't the one before
abbrev pub own_text : Option ℕ → List Own → List ℕ
own_text last [] = []
own_text last (one ∷ own) = one_text last one ++ own_text (Some one.site) own

abbrev pub own_head : List Own → List ℕ
own_head own = own_text None own ++ codes "in conflict:\n"

-- entries of the transaction are shown, site by site, and conflicts of it, each in its direction, and more is said;
-- or that it has none
abbrev pub TellsDealings : ℕ → (old new : List ℕ) → Type 0
TellsDealings tx old new = (new ≡ old ++ codes "it has no entry\n")
    ⊎ ((own : List Own) × (pairs : List Pair) × All (IsOwn tx) own × All (IsOwnConflict None tx) pairs
    × Adds (old ++ (own_head own ++ pairs_text pairs)) new)

-- of these entries, which are all that the transaction has in these lines, each is shown, and behind them its
-- conflicts in these lines; or that it has none
abbrev pub TellsOwn : List SectionLine → ℕ → List Own → (old new : List ℕ) → Type 0
TellsOwn lines tx [] old new = new ≡ old ++ codes "it has no entry\n"
TellsOwn lines tx (one ∷ own) old new = (pairs : List Pair) × AreConflicts lines tx pairs
    × (new ≡ old ++ (own_head (one ∷ own) ++ conflicts_text pairs))

-- whether the transaction has any entry in the lines that a text has before the line of this number
abbrev pub IsAnyOwn : (bytes : List ℕ) (number tx : ℕ) → Bool → Type 0
IsAnyOwn bytes number tx any = (lines : List SectionLine) → HasBefore bytes number lines
    → IsTrue any ↔ (own_of tx lines ≢ [])

-- the same is told of the lines that a text has before the line of this number
abbrev pub TellsAllOwn : (bytes : List ℕ) (number tx : ℕ) → (old new : List ℕ) → Type 0
TellsAllOwn bytes number tx old new = (lines : List SectionLine) → HasBefore bytes number lines
    → TellsOwn lines tx (own_of tx lines) old new
