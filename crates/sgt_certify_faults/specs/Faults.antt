-- Faults of logs that no certificate mends: the rules of their lines, as far as those don't speak
-- of the certificate.
use Rattle.std.specs.Prelude.{◌≡◌, ◌≢◌, ◌==◌, ℕ, ◌+◌, ◌≤◌, ◌<◌, Bool, true, false, List, [], ◌∷◌, ◌++◌, length, map, count_by, All}
use Rattle.std.specs.List.{filter_map}
use Rattle.sgt_names.specs.Limits.{max_line, max_sites}
use Rattle.sgt_names.specs.Entry.{tx_of, IsEnd}
use Rattle.sgt_notation.specs.Lines.{IsLongerThan}
use Rattle.sgt_notation.specs.Spelling.{line_text, text_of_lines}
use Rattle.sgt_notation.specs.declared.SectionLine.{SectionLine}
use Rattle.sgt_notation.specs.declared.SectionLine.TheVariants as Line
use Rattle.sgt_bundle.specs.Text.{format_line, Begins, AreSections}
use Rattle.sgt_bundle.specs.declared.certificate.Certificate.{Certificate}
use Rattle.sgt_certify_logs.specs.Sound.{EndAlike}
use Rattle.sgt_audit.specs.declared.faults.Fault.{Fault}
use Rattle.sgt_audit.specs.declared.faults.Fault.TheVariants as fault
use Rattle.sgt_audit.specs.Faults.{entries_in, fault_number, logged_in, IsLineIn, Keeps, Piece, whole, last, ComesNext, Rule, start}

-- ---- what a line keeps, whatever the certificate

-- a certificate that decides nothing
abbrev pub undecided : Certificate
undecided = record { decisions = []; sites = 0 }

-- a line of a section, after the lines before it: it goes on with sections, of whatever number of
-- sites; no earlier entry of its
-- transaction asks for another kind of end, and none at its site is its end; and what the auditor
-- asks where nothing is decided
abbrev pub KeepsAlone : List SectionLine → SectionLine → Fault → Type 0
KeepsAlone before line fault.Section = (count : ℕ) × Begins count (before ++ line ∷ [])
KeepsAlone before (Line.Logged e) fault.End =
    All (λ f. tx_of f ≡ tx_of e → EndAlike f e) (filter_map logged_in before)
    × All (λ f. IsEnd f → tx_of f ≢ tx_of e) (entries_in before)
KeepsAlone before line f = Keeps undecided before line f

-- ---- how far a text of logs was read, and what comes next

-- nothing, or its first line and lines of sections
pub data Front : Type 0 where
  none : Front
  behind : Bool → List SectionLine → Front

-- the lines read so far, spelled
abbrev pub lines_of : Front → List (List ℕ)
lines_of none = []
lines_of (behind second before) = format_line second ∷ map line_text before

-- each is a line of its format
abbrev pub AreSpelled : Front → Type 0
AreSpelled none = Unit {0}
AreSpelled (behind second before) = All (IsLineIn second) before

-- the sections of as many sites as there can be
abbrev pub AreAll : List SectionLine → Type 0
AreAll before = AreSections max_sites before

-- what the next line keeps, or the end, behind lines that aren't all: no line is too long, and the
-- input ends behind a whole section
abbrev pub RuleWithin : Bool → List SectionLine → Piece → Fault → Type 0
RuleWithin second before (whole l) fault.Notation = (line : SectionLine) × IsLineIn second line
    × (l ≡ line_text line)
RuleWithin second before (whole l) f = (line : SectionLine) → IsLineIn second line
    → l ≡ line_text line → KeepsAlone before line f
RuleWithin second before (last l) fault.Notation = length l ≤ max_line
RuleWithin second before (last l) fault.Truncated = (l ≡ [])
    × ((count : ℕ) × AreSections count before)
RuleWithin second before (last l) f = Unit {0}

-- what comes next keeps: nothing follows all sections
abbrev pub RuleAlone : Front → Piece → Fault → Type 0
RuleAlone none next f = Rule start next f
RuleAlone (behind second before) next fault.Trailing = AreAll before → next ≡ last []
RuleAlone (behind second before) next f = (AreAll before → ⊥) → RuleWithin second before next f

-- line n of the bytes, or their end there, breaks a rule that doesn't speak of the certificate
pub record HasFault (bytes : List ℕ) (n : ℕ) (f : Fault) : Type 0 where
  pub front : Front
  pub rest : List ℕ
  pub next : Piece
  pub text : bytes ≡ text_of_lines (lines_of front) ++ rest
  pub spelled : AreSpelled front
  pub number : n ≡ length (lines_of front) + 1
  pub comes : ComesNext rest next
  pub broken : RuleAlone front next f → ⊥

-- ---- the first fault

-- each line is one of its format, and keeps every rule behind the lines before it
abbrev pub AreKept : Bool → List SectionLine → Type 0
AreKept second lines = (earlier later : List SectionLine) (l : SectionLine)
    → lines ≡ earlier ++ l ∷ later
    → IsLineIn second l × ((f : Fault) → KeepsAlone earlier l f)

-- line n has the fault, no line before it has one, and of its own this is the least
pub record IsFirstFault (bytes : List ℕ) (n : ℕ) (f : Fault) : Type 0 where
  pub has : HasFault bytes n f
  pub first : (m : ℕ) (g : Fault) → HasFault bytes m g → n ≤ m
  pub least : (g : Fault) → HasFault bytes n g → fault_number f ≤ fault_number g

-- no line has a fault
abbrev pub IsFaultless : List ℕ → Type 0
IsFaultless bytes = (n : ℕ) (f : Fault) → HasFault bytes n f → ⊥

-- no line that stands whole in the bytes has a fault, whatever comes behind them
abbrev pub HasNoFaultWithin : List ℕ → Type 0
HasNoFaultWithin bytes = (more : List ℕ) (n : ℕ) (f : Fault) → HasFault (bytes ++ more) n f
    → count_by (λ b. b == 10) bytes < n

-- what follows a text: nothing, where that is all, else a line that is too long
abbrev pub GoesOn : Bool → List ℕ → Type 0
GoesOn true more = more ≡ []
GoesOn false more = IsLongerThan max_line more
