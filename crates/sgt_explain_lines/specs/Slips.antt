-- Why a line spells nothing, and how that is told.
use Rattle.std.specs.Prelude.{◌≡◌, ◌≢◌, ◌⊎◌, ℕ, ◌<◌, ◌≤◌, ◌&&◌, Bool, IsTrue, List, [], ◌∷◌, ◌++◌, length, All, Contains, codes, decimal, if◌then◌else◌, nat_lt, ◌==◌, ◌||◌}
use Rattle.sgt_names.specs.Limits.{max_line}
use Rattle.sgt_names.specs.Name.{Name, IsName}
use Rattle.sgt_names.specs.declared.entry.Entry.{Entry}
use Rattle.sgt_names.specs.declared.entry.Holding.{Holding}
use Rattle.sgt_notation.specs.Spelling.{assignment, operation, entry_text, line_text, IsTx, IsValue, IsSite, IsHolding, IsEntry, IsLine}
use Rattle.sgt_notation.specs.Reading.{SpellsNone}
use Rattle.sgt_notation.specs.declared.SectionLine.{SectionLine}
use Rattle.sgt_explain_lines.specs.Told.{IsShown, bar}
use Rattle.sgt_explain_lines.specs.declared.slips.Slip.{Slip}
use Rattle.sgt_explain_lines.specs.declared.slips.Slip.TheVariants.{TooLong, Empty, CarriageReturn, EndsWithSpace, Increment, Form, LongName, BadName, InnerSpace, NoNumber, LeadingZero, NoDigit, TooGreat, NoTransaction, NoSite}

-- the bytes spell such a value
abbrev pub Spells : {A : Type 0} → (A → Type 0) → (A → List ℕ) → List ℕ → Type 0
Spells {A} Is text bytes = (a : A) × Is a × (bytes ≡ text a)

-- ---- numbers

abbrev pub IsDigit : ℕ → Type 0
IsDigit b = (48 ≤ b) × (b ≤ 57)

-- the first byte that is no digit
abbrev pub IsFirstOther : List ℕ → ℕ → Type 0
IsFirstOther text b = (front : List ℕ) × (behind : List ℕ) × (text ≡ front ++ b ∷ behind) × All IsDigit front
    × (IsDigit b → ⊥)

-- why the bytes are no number below 2^64: a byte that is no digit, the first such; no bytes; digits with a zero
-- before them; and else digits of too great a number
abbrev pub IsNumberSlip : List ℕ → Slip → Type 0
IsNumberSlip text (NoDigit b) = IsFirstOther text b
IsNumberSlip text NoNumber = text ≡ []
IsNumberSlip text LeadingZero = All IsDigit text × (rest : List ℕ) × (text ≡ 48 ∷ rest) × (rest ≢ [])
IsNumberSlip text TooGreat = All IsDigit text × (d : ℕ) × (rest : List ℕ) × (text ≡ d ∷ rest) × (d ≢ 48)
    × SpellsNone IsValue decimal text
IsNumberSlip _ _ = ⊥

-- a number below 2^64 that isn't such a one
abbrev pub IsOtherNumber : (ℕ → Type 0) → List ℕ → Type 0
IsOtherNumber Is text = (n : ℕ) × IsValue n × (text ≡ decimal n) × (Is n → ⊥)

abbrev pub IsTxSlip : List ℕ → Slip → Type 0
IsTxSlip text s = IsNumberSlip text s ⊎ ((s ≡ NoTransaction) × IsOtherNumber IsTx text)

abbrev pub IsSiteSlip : List ℕ → Slip → Type 0
IsSiteSlip text s = IsNumberSlip text s ⊎ ((s ≡ NoSite) × IsOtherNumber IsSite text)

-- ---- names

-- why the bytes are no name: a space; more than 16 of them; and else another byte, or none
abbrev pub IsNameSlip : List ℕ → Slip → Type 0
IsNameSlip text InnerSpace = (IsName text → ⊥) × Contains text 32
IsNameSlip text (LongName n) = (IsName text → ⊥) × (Contains text 32 → ⊥) × (16 < n) × (n ≡ length text)
IsNameSlip text BadName = (IsName text → ⊥) × (Contains text 32 → ⊥) × (length text ≤ 16)
IsNameSlip _ _ = ⊥

-- ---- names with numbers

-- the byte isn't among these
abbrev pub Lacks : ℕ → List ℕ → Type 0
Lacks b text = All (λ c. c ≢ b) text

-- what stands before the first such byte, and what behind it
abbrev pub IsCutAt : ℕ → (text front behind : List ℕ) → Type 0
IsCutAt b text front behind = (text ≡ front ++ b ∷ behind) × Lacks b front

-- of a name and a number the name is told of first
abbrev pub IsPairSlip : (name value : List ℕ) → Slip → Type 0
IsPairSlip name value s = IsNameSlip name s ⊎ (IsName name × IsNumberSlip value s)

-- why the bytes are no `NAME=NUM`
abbrev pub IsAssignmentSlip : List ℕ → Slip → Type 0
IsAssignmentSlip text s = ((name : List ℕ) × (value : List ℕ) × IsCutAt 61 text name value × IsPairSlip name value s)
    ⊎ ((s ≡ Form) × Lacks 61 text)

-- `]=` stands in the bytes, the bracket as the first
abbrev pub HasAccess : List ℕ → Type 0
HasAccess text = (name : List ℕ) × (value : List ℕ) × IsCutAt 93 text name (61 ∷ value)

-- why they are no `NAME]=NUM`
abbrev pub IsAccessSlip : List ℕ → Slip → Type 0
IsAccessSlip text s = ((name : List ℕ) × (value : List ℕ) × IsCutAt 93 text name (61 ∷ value) × IsPairSlip name value s)
    ⊎ ((s ≡ Form) × (HasAccess text → ⊥))

abbrev pub SpellsAccess : List ℕ → Type 0
SpellsAccess text = (x : Name) × (v : ℕ) × IsName x × IsValue v × (text ≡ x ++ 93 ∷ (61 ∷ decimal v))

-- why they are no `TX[NAME]=NUM`: of a transaction first
abbrev pub IsOperationSlip : List ℕ → Slip → Type 0
IsOperationSlip text s =
    ((tx : List ℕ) × (behind : List ℕ) × IsCutAt 91 text tx behind
    × (IsTxSlip tx s ⊎ (Spells IsTx decimal tx × IsAccessSlip behind s)))
    ⊎ ((s ≡ Form) × Lacks 91 text)

-- ---- lines

-- the letters of operations: r, w, p, d, q; and of ends: c, n, a
abbrev pub is_operation_letter : ℕ → Bool
is_operation_letter b = (b == 114) || ((b == 119) || ((b == 112) || ((b == 100) || (b == 113))))

abbrev pub is_end_letter : ℕ → Bool
is_end_letter b = (b == 99) || ((b == 110) || (b == 97))

-- the line is such a letter and what stands behind it
abbrev pub Begins : (ℕ → Bool) → (line behind : List ℕ) → Type 0
Begins is line behind = (letter : ℕ) × IsTrue (is letter) × (line ≡ letter ∷ behind)

-- why the line is no entry's, by its letter
abbrev pub IsEntrySlip : List ℕ → Slip → Type 0
IsEntrySlip line s = ((behind : List ℕ) × Begins is_operation_letter line behind × IsOperationSlip behind s)
    ⊎ (((behind : List ℕ) × Begins is_end_letter line behind × IsTxSlip behind s)
    ⊎ ((s ≡ Form) × ((behind : List ℕ) → Begins is_operation_letter line behind → ⊥) × ((behind : List ℕ)
    → Begins is_end_letter line behind → ⊥)))

-- the line is this word and what stands behind it
abbrev pub HasWord : (word line behind : List ℕ) → Type 0
HasWord word line behind = line ≡ word ++ behind

-- why the line is none of a section, by its first word, or where it has none of these by its letter
abbrev pub IsWordsSlip : List ℕ → Slip → Type 0
IsWordsSlip line s = ((behind : List ℕ) × HasWord (codes "site ") line behind × IsSiteSlip behind s)
    ⊎ (((behind : List ℕ) × HasWord (codes "item ") line behind × IsAssignmentSlip behind s)
    ⊎ (((behind : List ℕ) × HasWord (codes "final ") line behind × IsAssignmentSlip behind s)
    ⊎ (((behind : List ℕ) → (HasWord (codes "site ") line behind → ⊥) × (HasWord (codes "item ") line behind → ⊥) × (HasWord (codes "final ") line behind → ⊥))
    × IsEntrySlip line s)))

-- the last byte of the line
abbrev pub EndsWith : ℕ → List ℕ → Type 0
EndsWith b line = (front : List ℕ) × (line ≡ front ++ b ∷ [])

-- why a line that isn't too long is none of a section of its format: its last byte, or its words; and where neither
-- is wrong, it is an increment's
abbrev pub IsSlipWithin : List ℕ → Slip → Type 0
IsSlipWithin line s = ((s ≡ CarriageReturn) × EndsWith 13 line)
    ⊎ (((s ≡ EndsWithSpace) × EndsWith 32 line)
    ⊎ ((line ≢ []) × (EndsWith 13 line → ⊥) × (EndsWith 32 line → ⊥)
    × (IsWordsSlip line s ⊎ ((s ≡ Increment) × Spells IsLine line_text line))))

-- the same of any line
abbrev pub IsSlip : List ℕ → Slip → Type 0
IsSlip line s = ((s ≡ TooLong) × (max_line < length line))
    ⊎ ((length line ≤ max_line) × (((s ≡ Empty) × (line ≡ [])) ⊎ IsSlipWithin line s))

-- ---- in words

abbrev pub advice_text : Slip → List ℕ
advice_text TooLong = codes "it is longer than 1048576 bytes"
advice_text Empty = codes "it is empty: blank lines aren't skipped"
advice_text CarriageReturn = codes "a CR stands at its end: a line ends with LF alone"
advice_text EndsWithSpace = codes "a space stands at its end"
advice_text Increment = codes "increments are read under `sgt 2` alone, and line 1 is `sgt 1`"
advice_text BadName = codes "a name is a letter a to z, then up to 15 of a to z, 0 to 9 and _"
advice_text InnerSpace = codes "a space stands in its name, or before or behind it"
advice_text NoNumber = codes "a number is missing"
advice_text LeadingZero = codes "a number has no leading zero"
advice_text TooGreat = codes "a number is at most 18446744073709551615"
advice_text NoTransaction = codes "the number of a transaction is 1 to 4294967295"
advice_text NoSite = codes "the number of a site is 0 to 63"
advice_text (LongName n) = codes "the forms are: site K, item NAME=NUM, final NAME=NUM, end; cTX, nTX, aTX;\nrTX[NAME]=NUM, and with w, p and under `sgt 2` d, q in the place of r"
advice_text (NoDigit b) = codes "the forms are: site K, item NAME=NUM, final NAME=NUM, end; cTX, nTX, aTX;\nrTX[NAME]=NUM, and with w, p and under `sgt 2` d, q in the place of r"
advice_text Form = codes "the forms are: site K, item NAME=NUM, final NAME=NUM, end; cTX, nTX, aTX;\nrTX[NAME]=NUM, and with w, p and under `sgt 2` d, q in the place of r"

abbrev pub advice_line : Slip → List ℕ
advice_line s = advice_text s ++ codes "\n"

abbrev pub long_name_text : ℕ → List ℕ
long_name_text n = codes "its name has " ++ (decimal n ++ codes " bytes: a name has at most 16\n")

-- a byte that can be printed is shown
abbrev pub no_digit_text : ℕ → List ℕ
no_digit_text b = codes "`" ++ (b ∷ codes "` stands in a number, which has digits alone\n")

abbrev pub slip_text : Slip → List ℕ
slip_text (LongName n) = long_name_text n
slip_text (NoDigit b) = if nat_lt 32 b && nat_lt b 127 then no_digit_text b else advice_line (NoDigit b)
slip_text s = advice_line s

-- the line is shown, and why it spells nothing
abbrev pub notation_head : List ℕ
notation_head = codes "Notation: this line is none that a section has\n"

abbrev pub TellsSlip : ℕ → (line old new : List ℕ) → Type 0
TellsSlip n line old new = (shown : List ℕ) × (s : Slip) × IsShown line shown × IsSlip line s
    × (new ≡ old ++ (notation_head ++ ((bar n ++ (shown ++ codes "\n")) ++ slip_text s)))
