-- What is told of line 1, of a line that a section doesn't allow, of the end of a bundle and of what follows it.
use Rattle.std.specs.Prelude.{◌≡◌, ◌≢◌, ◌⊎◌, ℕ, ◌+◌, ◌-◌, ◌<◌, ◌≤◌, List, [], ◌∷◌, ◌++◌, All, length, codes, decimal, Option, Some, None, unwrap_or}
use Rattle.sgt_names.specs.Limits.{max_line}
use Rattle.sgt_names.specs.Name.{Name}
use Rattle.sgt_names.specs.declared.entry.Holding.{Holding}
use Rattle.sgt_notation.specs.Spelling.{line_text, text_of_lines, HasNoLf, IsLine}
use Rattle.sgt_notation.specs.declared.SectionLine.{SectionLine}
use Rattle.sgt_notation.specs.declared.SectionLine.TheVariants as Line
use Rattle.sgt_explain_lines.specs.declared.section.Section.{Section}
use Rattle.sgt_explain_lines.specs.declared.section.Stated.{Stated}
use Rattle.sgt_explain_lines.specs.Beside.{ComesBefore, name_at}
use Rattle.sgt_explain_lines.specs.Numbered.{IsLineAt}
use Rattle.sgt_explain_lines.specs.Slips.{EndsWith}
use Rattle.sgt_explain_lines.specs.Told.{IsShown, bar}

-- behind these words stands the line with its number, and then this text
abbrev pub TellsLine : (words : List ℕ) → ℕ → (line more old new : List ℕ) → Type 0
TellsLine words n line more old new = (shown : List ℕ) × IsShown line shown
    × (new ≡ old ++ (words ++ ((bar n ++ (shown ++ codes "\n")) ++ more)))

-- ---- line 1

abbrev pub format_head : List ℕ
format_head = codes "Format: line 1 has to be `sgt 1`, or `sgt 2` where there are increments\n"

-- the line begins with a byte order mark
abbrev pub HasMark : List ℕ → Type 0
HasMark line = (behind : List ℕ) × (line ≡ (239 ∷ (187 ∷ (191 ∷ []))) ++ behind)

-- what is said of its last byte: of a CR, and of a brace, with which a certificate ends
abbrev pub IsEndSlip : List ℕ → List ℕ → Type 0
IsEndSlip line told = (EndsWith 13 line × (told ≡ codes "a CR stands at its end: a line ends with LF alone\n"))
    ⊎ ((EndsWith 125 line × (told ≡ codes "the certificate is line 2: the line before it was left out\n"))
    ⊎ ((EndsWith 13 line → ⊥) × (EndsWith 125 line → ⊥) × (told ≡ codes "")))

-- why the line is no format: it is too long, or else empty, or else begins with a mark, or else ends otherwise
abbrev pub IsFormatSlip : List ℕ → List ℕ → Type 0
IsFormatSlip line told = ((max_line < length line) × (told ≡ codes "it is longer than 1048576 bytes\n"))
    ⊎ ((length line ≤ max_line) × (((line ≡ []) × (told ≡ codes "it is empty\n"))
    ⊎ ((line ≢ []) × ((HasMark line × (told ≡ codes "a byte order mark stands before it: the text begins without one\n"))
    ⊎ ((HasMark line → ⊥) × IsEndSlip line told)))))

abbrev pub TellsFormat : (line old new : List ℕ) → Type 0
TellsFormat line old new = (told : List ℕ) × IsFormatSlip line told × TellsLine format_head 1 line told old new

-- ---- what may follow the lines of a section

-- the item of the next final, where one is wanted
abbrev pub next_name : Section → Option Name
next_name s = name_at s.items.items (length s.finals.items)

abbrev pub next_text : Option Name → List ℕ
next_text (Some x) = codes "`final " ++ (x ++ codes "=..`")
next_text None = codes "`end`"

abbrev pub or_next : List ℕ → Option Name → List ℕ
or_next words next = words ++ (next_text next ++ codes "\n")

abbrev pub next_site : ℕ → ℕ → List ℕ
next_site site next = codes "the section of site " ++ (decimal site ++ (codes " is over, and line 2 says more sites: next is `site "
    ++ (decimal next ++ codes "`\n")))

-- by the last line, the site that is open and the next final
abbrev pub allowed_by : Option SectionLine → ℕ → Option Name → List ℕ
allowed_by None site next = codes "the first section begins with `site 0`\n"
allowed_by (Some Line.End) site next = next_site site (site + 1)
allowed_by (Some (Line.Site k)) site next = or_next (codes "here may stand: an item of a greater name, an entry, or ") next
allowed_by (Some (Line.Initial h)) site next = or_next (codes "here may stand: an item of a greater name, an entry, or ") next
allowed_by (Some (Line.Logged e)) site next = or_next (codes "here may stand: an entry, or ") next
allowed_by (Some (Line.Final h)) site next = or_next (codes "here has to stand: ") next

abbrev pub allowed_text : Section → List ℕ
allowed_text s = allowed_by s.last (unwrap_or s.site 0) (next_name s)

-- ---- a line that the section doesn't allow

abbrev pub section_head : List ℕ
section_head = codes "Section: the section doesn't allow this line here\n"

abbrev pub falling_text : Name → Name → List ℕ
falling_text x y = codes "the names of items rise by their bytes, and " ++ (x ++ (codes " isn't behind " ++ (y ++ codes "\n")))

abbrev pub last_name : List Stated → Option Name
last_name items = name_at items (length items - 1)

-- why an item of this name isn't allowed behind these: they are as many as there can be, or else the last doesn't
-- come before it
abbrev pub IsItemRule : List Stated → Name → List ℕ → Type 0
IsItemRule items x told = ((1024 ≤ length items) × (told ≡ codes "a site has at most 1024 items\n"))
    ⊎ ((length items < 1024)
    × (((y : Name) × (last_name items ≡ Some y) × (ComesBefore y x → ⊥) × (told ≡ falling_text x y))
    ⊎ (((y : Name) → last_name items ≡ Some y → ComesBefore y x) × (told ≡ codes ""))))

abbrev pub initial_in : SectionLine → Option Name
initial_in (Line.Initial h) = Some h.item
initial_in _ = None

-- why it isn't allowed, of an item's line, and what may stand there
abbrev pub IsSectionRule : Section → List ℕ → List ℕ → Type 0
IsSectionRule s line told =
    ((h : Holding) × (rule : List ℕ) × IsLine (Line.Initial h) × (line ≡ line_text (Line.Initial h))
    × IsItemRule s.items.items h.item rule × (told ≡ rule ++ allowed_text s))
    ⊎ (((h : Holding) → IsLine (Line.Initial h) → line ≡ line_text (Line.Initial h) → ⊥) × (told ≡ allowed_text s))

-- the line before the one of this number, where that is one of a section
pub record IsLineBefore (bytes : List ℕ) (n : ℕ) (told : List ℕ) : Type 0 where
  pub none : n ≤ 3 → told ≡ codes ""
  pub some : 3 < n → (line : List ℕ) → IsLineAt bytes (n - 1) line
      → (shown : List ℕ) × IsShown line shown × (told ≡ bar (n - 1) ++ (shown ++ codes "\n"))

abbrev pub TellsSection : List ℕ → ℕ → Section → (line old new : List ℕ) → Type 0
TellsSection bytes n s line old new = (before : List ℕ) × (told : List ℕ) × IsLineBefore bytes n before
    × IsSectionRule s line told
    × TellsLine (section_head ++ before) n line told old new

-- ---- the end of a bundle

abbrev pub truncated_head : List ℕ
truncated_head = codes "Truncated: the input ends before its bundle does\n"

abbrev pub no_lf_text : ℕ → List ℕ
no_lf_text n = codes "line " ++ (decimal n ++ codes " has no LF, so it isn't whole\n")

abbrev pub not_there_text : ℕ → List ℕ
not_there_text n = codes "line " ++ (decimal n ++ codes " isn't there\n")

-- what has to stand in the line of this number, of a section by the lines before
pub record IsAwaited (n : ℕ) (s : Section) (told : List ℕ) : Type 0 where
  pub first : n ≡ 1 → told ≡ codes "line 1 has to be `sgt 1` or `sgt 2`\n"
  pub second : n ≡ 2 → told ≡ codes "line 2 has to be the certificate\n"
  pub other : n ≢ 1 → n ≢ 2 → told ≡ allowed_text s

-- the line in which a text ends, and what has to stand there; or that there is none of that number
abbrev pub TellsBroken : ℕ → Section → (line old new : List ℕ) → Type 0
TellsBroken n s line old new = (told : List ℕ) × IsAwaited n s told
    × TellsLine truncated_head n line (no_lf_text n ++ told) old new

abbrev pub TellsMissing : ℕ → Section → (old new : List ℕ) → Type 0
TellsMissing n s old new = (told : List ℕ) × IsAwaited n s told
    × (new ≡ old ++ (truncated_head ++ (not_there_text n ++ told)))

-- the text is these lines, and has none of this number
abbrev pub HasUpTo : List ℕ → ℕ → Type 0
HasUpTo bytes n = (lines : List (List ℕ)) × All HasNoLf lines × (bytes ≡ text_of_lines lines) × (n ≡ length lines + 1)

-- ---- what follows a bundle

abbrev pub trailing_head : List ℕ
trailing_head = codes "Trailing: the bundle is over, and more bytes follow\n"

abbrev pub trailing_rule : ℕ → List ℕ
trailing_rule n = codes "line " ++ (decimal (n - 1) ++ codes " ends the last site that line 2 says: nothing may stand behind it\n")
