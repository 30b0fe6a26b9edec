-- How entries and values are written where they are shown.
use Rattle.std.specs.Prelude.{◌≡◌, ℕ, ◌+◌, ◌/◌, ◌%◌, ◌<◌, ◌≤◌, Bool, false, ◌&&◌, List, [], ◌∷◌, ◌++◌, length, take, codes, decimal, flat_map, Option, Some, None, if◌then◌else◌, nat_lt, ◌==◌}
use Rattle.std.specs.Fmt.{digit_glyph}
use Rattle.sgt_names.specs.Name.{Name}
use Rattle.sgt_names.specs.Entry.{tx_of, is_increment}
use Rattle.sgt_names.specs.declared.entry.Entry.{Entry}
use Rattle.sgt_names.specs.declared.entry.Entry.TheVariants as entry
use Rattle.sgt_names.specs.declared.entry.Kind.{Kind}
use Rattle.sgt_names.specs.declared.entry.Kind.TheVariants.{Wr, Rw, Ww}
use Rattle.sgt_notation.specs.Spelling.{entry_text}
use Rattle.sgt_explain_lines.specs.declared.section.Logged.{Logged}
use Rattle.sgt_explain_lines.specs.declared.values.Made.{Made}
use Rattle.sgt_explain_lines.specs.declared.values.Misvalued.{Misvalued}

-- the number of a line, in four columns where it has no more, and the bar behind it
abbrev pub margin : ℕ → List ℕ
margin n = if nat_lt n 10 then codes "   " else (if nat_lt n 100 then codes "  " else (if nat_lt n 1000 then codes " " else []))

abbrev pub bar : ℕ → List ℕ
bar n = margin n ++ (decimal n ++ codes " | ")

-- a byte by its hexadecimal digits
abbrev pub hex_text : ℕ → List ℕ
hex_text b = codes "\\x" ++ (digit_glyph false (b / 16) ∷ digit_glyph false (b % 16) ∷ [])

-- a byte where bytes are shown: as it is where it can be printed, else as an escape
abbrev pub shown_byte : ℕ → List ℕ
shown_byte b =
    if b == 9 then codes "\\t"
    else if b == 13 then codes "\\r"
    else if b == 10 then codes "\\n"
    else if b == 92 then codes "\\\\"
    else if nat_lt 31 b && nat_lt b 127 then b ∷ []
    else hex_text b

abbrev pub shown_bytes : List ℕ → List ℕ
shown_bytes text = flat_map shown_byte text

-- a text as it is shown: whole where it takes at most 71 columns, else the longest front of it that does, and two dots
pub record IsShown (text shown : List ℕ) : Type 0 where
  pub whole : length (shown_bytes text) ≤ 71 → shown ≡ shown_bytes text
  pub cut : 71 < length (shown_bytes text)
      → (n : ℕ) × (length (shown_bytes (take n text)) ≤ 71) × (71 < length (shown_bytes (take (n + 1) text)))
      × (shown ≡ shown_bytes (take n text) ++ codes "..")

-- a text was shown behind the old one, as a line with its number
abbrev pub ShowsNumbered : ℕ → List ℕ → (old new : List ℕ) → Type 0
ShowsNumbered n text old new = (shown : List ℕ) × IsShown text shown × (new ≡ old ++ (bar n ++ (shown ++ codes "\n")))

-- the line of an entry with its number, and with the spaces before a note, which bring its column to one behind a
-- multiple of four
abbrev pub shown_line : Logged → List ℕ
shown_line l = bar l.line ++ entry_text l.entry

abbrev pub gap : ℕ → List ℕ
gap n = if n % 4 == 0 then codes "     " else (if n % 4 == 1 then codes "        " else (if n % 4 == 2 then codes "       " else codes "      "))

abbrev pub noted_line : Logged → List ℕ
noted_line l = shown_line l ++ gap (length (entry_text l.entry))

-- what an entry does to its item
abbrev pub verb_text : Entry → List ℕ
verb_text (entry.Read tx x v) = codes "read"
verb_text (entry.Write tx x v) = codes "wrote"
verb_text (entry.Add tx x v) = codes "added to"
verb_text (entry.Want tx x v) = codes "asked to write"
verb_text (entry.WantAdd tx x v) = codes "asked to add to"
verb_text (entry.Commit tx) = codes "was committed"
verb_text (entry.Refuse tx) = codes "was refused"
verb_text (entry.Withdraw tx) = codes "was withdrawn"

abbrev pub kind_text : Kind → List ℕ
kind_text Wr = codes "wr"
kind_text Rw = codes "rw"
kind_text Ww = codes "ww"

-- two entries in conflict on an item of a site, with their lines
abbrev pub order_text : Name → Entry → Entry → List ℕ
order_text x one other = decimal (tx_of one) ++ (codes " " ++ (verb_text one ++ (codes " " ++ (x ++ (codes " before "
    ++ (decimal (tx_of other) ++ (codes " " ++ (verb_text other ++ codes " it"))))))))

abbrev pub conflict_text : ℕ → Name → Logged → Logged → List ℕ
conflict_text k x one other = order_text x one.entry other.entry ++ (codes ": site " ++ (decimal k ++ (codes ", lines "
    ++ (decimal one.line ++ (codes " and " ++ decimal other.line)))))

-- ---- a value that an item has where a line gives it another

-- the line that made it: an entry's, or that of the item
abbrev pub maker_text : ℕ → ℕ → Bool → List ℕ
maker_text tx v adds = if adds then codes "transaction " ++ (decimal tx ++ (codes " added to it, which gave " ++ (decimal v ++ codes "\n")))
    else codes "transaction " ++ (decimal tx ++ codes " wrote it\n")

abbrev pub listed_text : Name → ℕ → List ℕ
listed_text x v = codes "item " ++ (x ++ (codes "=" ++ (decimal v ++ codes "     its initial value\n")))

abbrev pub made_by_text : Name → Made → Option Logged → List ℕ
made_by_text x made (Some l) = noted_line l ++ maker_text (tx_of l.entry) made.value (is_increment l.entry)
made_by_text x made None = bar made.listed ++ listed_text x made.value

abbrev pub made_text : Name → Made → List ℕ
made_text x made = made_by_text x made made.by

-- until when it had the value that the line gives it
abbrev pub until_text : ℕ → Option ℕ → List ℕ
until_text v (Some n) = decimal v ++ (codes " was its value up to line " ++ decimal n)
until_text v None = decimal v ++ codes " was never its value before"

abbrev pub reason_text : Option ℕ → List ℕ
reason_text (Some n) = codes ": a read of an old version, or the log is wrong\n"
reason_text None = codes ": a read of something else, or the log is wrong\n"

-- what the item has there
abbrev pub found_text : Misvalued → List ℕ
found_text s = s.item ++ (codes " at site " ++ (decimal s.site ++ (codes " is " ++ decimal s.made.value)))

abbrev pub history_text : Misvalued → List ℕ
history_text s = made_text s.item s.made ++ until_text s.given s.until

-- what is said of a read by the transaction
abbrev pub read_front : ℕ → Misvalued → List ℕ
read_front tx s = codes "ReadValue: r" ++ (decimal tx ++ (codes "[" ++ (s.item ++ (codes "]=" ++ (decimal s.given ++ codes ", but ")))))

abbrev pub read_head : ℕ → Misvalued → List ℕ
read_head tx s = read_front tx s ++ (found_text s ++ codes " here\n")

abbrev pub read_text : ℕ → Misvalued → List ℕ
read_text tx s = read_head tx s ++ (history_text s ++ reason_text s.until)

-- and of a final
abbrev pub final_front : Misvalued → List ℕ
final_front s = codes "Final: final " ++ (s.item ++ (codes "=" ++ (decimal s.given ++ codes ", but ")))

abbrev pub final_text : Misvalued → List ℕ
final_text s = final_front s ++ (found_text s ++ (codes " at the end\n" ++ (history_text s ++ codes "\n")))

-- ---- what is said of other faults

-- something was written behind the old text
abbrev pub Adds : (old new : List ℕ) → Type 0
Adds old new = (more : List ℕ) × (new ≡ old ++ more)

-- behind the old text stands one that begins with these words, and among what follows is the line with its number
pub record ShowsLine (words : List ℕ) (number : ℕ) (line old new : List ℕ) : Type 0 where
  pub upto : List ℕ
  pub until : List ℕ
  pub begins : Adds (old ++ words) upto
  pub there : ShowsNumbered number line upto until
  pub goes_on : Adds until new

-- the same of the line of an entry
pub record ShowsEntry (words : List ℕ) (logged : Logged) (old new : List ℕ) : Type 0 where
  pub upto : List ℕ
  pub begins : Adds (old ++ words) upto
  pub goes_on : Adds (upto ++ shown_line logged) new
