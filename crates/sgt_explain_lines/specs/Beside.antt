-- What is said of an entry by the items and the entries before it in its section.
use Rattle.std.specs.Prelude.{◌≡◌, ℕ, ◌-◌, ◌≤◌, List, ◌++◌, length, take, slice_get, All, Contains, codes, decimal, Option, Some, None, IfSome, IfNone, option_map}
use Rattle.std.specs.Ordering.{nat_cmp}
use Rattle.std.specs.Cmp.Lexicographic.{slice_cmp}
use Rattle.std.specs.declared.cmp.Ordering.TheVariants.{Less}
use Rattle.sgt_names.specs.Name.{Name}
use Rattle.sgt_names.specs.Entry.{tx_of, Repeats}
use Rattle.sgt_names.specs.declared.entry.Entry.{Entry}
use Rattle.sgt_names.specs.declared.entry.Entry.TheVariants as entry
use Rattle.sgt_explain_lines.specs.declared.section.Logged.{Logged}
use Rattle.sgt_explain_lines.specs.declared.section.Stated.{Stated}
use Rattle.sgt_explain_lines.specs.Told.{IsShown, bar, shown_line, verb_text}

-- ---- an item that the section doesn't list

-- the name comes before the other, by its bytes
abbrev pub ComesBefore : Name → Name → Type 0
ComesBefore x y = slice_cmp nat_cmp x y ≡ Less

abbrev pub name_at : List Stated → ℕ → Option Name
name_at items n = option_map (λ s. s.holding.item) (slice_get items n)

-- of items whose names rise, so many don't come behind the name: the nearest before it is the last of them, and the
-- nearest behind it is the one that follows. So none is near only where there are no items
pub record AreNearest (items : List Stated) (x : Name) (before behind : Option Name) : Type 0 where
  pub count : ℕ
  pub within : count ≤ length items
  pub upto : All (λ s. ComesBefore x s.holding.item → ⊥) (take count items)
  pub last : before ≡ name_at (take count items) (count - 1)
  pub next : behind ≡ name_at items count
  pub beyond : IfSome behind (ComesBefore x)

abbrev pub item_words : Name → ℕ → List ℕ
item_words x site = codes "Item: site " ++ (decimal site ++ (codes " has no item " ++ (x ++ codes "\n")))

abbrev pub nearest_text : Option Name → Option Name → List ℕ
nearest_text (Some one) (Some other) = codes "\nthe nearest by name there: " ++ (one ++ (codes ", " ++ (other ++ codes "\n")))
nearest_text (Some one) None = codes "\nthe nearest by name there: " ++ (one ++ codes "\n")
nearest_text None (Some other) = codes "\nthe nearest by name there: " ++ (other ++ codes "\n")
nearest_text None None = codes "\nthe site has no items\n"

-- the entry is shown with the names nearest to that of its item
abbrev pub ShowsNearest : List Stated → Name → ℕ → Logged → (old new : List ℕ) → Type 0
ShowsNearest items x site l old new = (before : Option Name) × (behind : Option Name) × AreNearest items x before behind
    × (new ≡ old ++ (item_words x site ++ (shown_line l ++ nearest_text before behind)))

-- ---- an entry that repeats another

-- one of the entries that this one repeats; none where it repeats none
pub record IsRepeated (entries : List Logged) (x : Name) (e : Entry) (first : Option Logged) : Type 0 where
  pub there : IfSome first (λ l. Contains entries l × Repeats x l.entry e)
  pub none : IfNone first (All (λ l. Repeats x l.entry e → ⊥) entries)

abbrev pub twice_verb : Entry → List ℕ
twice_verb (entry.Read tx x v) = codes "reads"
twice_verb _ = codes "changes, or asks to change,"

abbrev pub twice_head : Entry → Name → ℕ → List ℕ
twice_head e x site = codes "Twice: transaction " ++ (decimal (tx_of e) ++ (codes " " ++ (twice_verb e ++ (codes " item " ++ (x
    ++ (codes " of site " ++ (decimal site ++ codes " a second time\n")))))))

abbrev pub line_if_there : Option Logged → List ℕ
line_if_there (Some l) = shown_line l ++ codes "\n"
line_if_there None = codes ""

abbrev pub repeating_text : Logged → List ℕ
repeating_text l = shown_line l ++ codes "\na transaction reads an item once at most, and changes it or asks to once at most\n"

abbrev pub twice_text : Name → ℕ → Option Logged → Logged → List ℕ
twice_text x site first l = twice_head l.entry x site ++ (line_if_there first ++ repeating_text l)

-- the entry is shown with the one that it repeats
abbrev pub ShowsTwice : List Logged → Name → ℕ → Logged → (old new : List ℕ) → Type 0
ShowsTwice entries x site l old new = (first : Option Logged) × IsRepeated entries x l.entry first
    × (new ≡ old ++ twice_text x site first l)

-- ---- a line that cuts a block

abbrev pub block_words : ℕ → List ℕ → List ℕ
block_words tx done = codes "Block: what transaction " ++ (decimal tx ++ (codes " " ++ (done ++ codes " isn't followed by its next line\n")))

abbrev pub block_head : Entry → List ℕ
block_head e = block_words (tx_of e) (verb_text e)

-- what may follow a want, and what a change
abbrev pub block_letters : Entry → List ℕ
block_letters (entry.Want tx x v) = codes "p, q or n"
block_letters (entry.WantAdd tx x v) = codes "p, q or n"
block_letters _ = codes "w, d or c"

abbrev pub block_rule : Logged → List ℕ
block_rule l = codes "directly behind line " ++ (decimal l.line ++ (codes " may stand " ++ (block_letters l.entry ++ (codes " of "
    ++ (decimal (tx_of l.entry) ++ codes " alone: they stand together\n")))))

-- the entry of the block is shown, and the line that cuts it
abbrev pub ShowsBlock : Logged → ℕ → List ℕ → (old new : List ℕ) → Type 0
ShowsBlock last n text old new = (shown : List ℕ) × IsShown text shown
    × (new ≡ old ++ (block_head last.entry ++ (shown_line last ++ (codes "\n" ++ ((bar n ++ (shown ++ codes "\n")) ++ block_rule last)))))
