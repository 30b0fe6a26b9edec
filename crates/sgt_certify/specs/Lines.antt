-- The lines behind a refusal: each step with the two lines of the text that show it.
use Rattle.std.specs.Prelude.{◌≡◌, ◌⊎◌, ℕ, zero, suc, ◌+◌, ◌<◌, List, [], ◌∷◌, ◌++◌, codes, decimal, length, Contains, Some, slice_get}
use Rattle.std.specs.List.{flat_map}
use Rattle.sgt_names.specs.Entry.{tx_of, IsEnd}
use Rattle.sgt_names.specs.declared.entry.Entry.{Entry}
use Rattle.sgt_names.specs.declared.entry.Kind.{Kind}
use Rattle.sgt_names.specs.declared.entry.Kind.TheVariants.{Wr, Rw, Ww}
use Rattle.sgt_notation.specs.Spelling.{entry_text}
use Rattle.sgt_bundle.specs.declared.bundle.SiteLog.{SiteLog}
use Rattle.sgt_certify_logs.specs.Steps.{IsConflictCycle, IsEndCycle}
use Rattle.sgt_certify_logs.specs.Witness.{EndsBefore, IsStuck, PrecedesCommitted}
use Rattle.sgt_certify_logs.specs.declared.checks.ConflictStep.{ConflictStep}
use Rattle.sgt_certify_logs.specs.declared.checks.EndStep.{EndStep}
use Rattle.sgt_certify_greedy.specs.Sorted.{IsRing}
use Rattle.sgt_certify.specs.declared.refuting.Refusal.{Refusal}
use Rattle.sgt_certify.specs.declared.refuting.Refusal.TheVariants.{Order, Ranks, Walk}

-- how many lines the section of a site has: its own, its items, its entries, their last values, the end
abbrev pub section_length : SiteLog → ℕ
section_length log = length log.items + length log.entries + length log.finals + 2

-- where the entry at this place of the log of this site stands among the lines of the sections,
-- counted from 1
abbrev pub line_in_sections : List SiteLog → (site place : ℕ) → ℕ
line_in_sections [] site place = 0
line_in_sections (log ∷ sites) zero place = length log.items + place + 2
line_in_sections (log ∷ sites) (suc site) place = section_length log + line_in_sections sites site place

-- the line of the entry in the text: the sections stand behind its first line
abbrev pub line_of : List SiteLog → (site place : ℕ) → ℕ
line_of sites site place = line_in_sections sites site place + 1

abbrev pub lines_text : (first second : ℕ) → List ℕ
lines_text first second =
    codes " lines " ++ (decimal first ++ (codes " " ++ (decimal second ++ codes "\n")))

-- the line of a step of a cycle of ends: A before B site S lines P Q
abbrev pub end_line : List SiteLog → EndStep → List ℕ
end_line sites s = decimal s.from ++ (codes " before " ++ (decimal s.to ++ (codes " site "
    ++ (decimal s.first.site ++ lines_text (line_of sites s.first.site s.first.entry)
    (line_of sites s.first.site s.second)))))

abbrev pub kind_text : Kind → List ℕ
kind_text Wr = codes " wr "
kind_text Rw = codes " rw "
kind_text Ww = codes " ww "

-- of one of a cycle of conflicts: A KIND B site S item X lines P Q
abbrev pub conflict_line : List SiteLog → ConflictStep → List ℕ
conflict_line sites s = decimal s.from ++ (kind_text s.kind ++ (decimal s.to ++ (codes " site "
    ++ (decimal s.first.site ++ (codes " item " ++ (s.item
    ++ lines_text (line_of sites s.first.site s.first.entry) (line_of sites s.first.site s.second)))))))

-- transactions, one a line
abbrev pub tx_line : ℕ → List ℕ
tx_line tx = decimal tx ++ codes "\n"

-- whoever ends in the log before this place is decided
abbrev pub AreDecidedBefore : (ℕ → Type 0) → List Entry → ℕ → Type 0
AreDecidedBefore IsDecided entries n = (k : ℕ) (f : Entry) → k < n → slice_get entries k ≡ Some f → IsEnd f
    → IsDecided (tx_of f)

-- the next end of a log: who ends there isn't decided, and whoever ends before is
pub record IsNextEnd (IsDecided : ℕ → Type 0) (entries : List Entry) (place : ℕ) (e : Entry) : Type 0 where
  pub at : slice_get entries place ≡ Some e
  pub end : IsEnd e
  pub left : IsDecided (tx_of e) → ⊥
  pub before : AreDecidedBefore IsDecided entries place

-- of the next end of a site: END site S line L
abbrev pub left_text : Entry → (site line : ℕ) → List ℕ
left_text e site line =
    entry_text e ++ (codes " site " ++ (decimal site ++ (codes " line " ++ (decimal line ++ codes "\n"))))

-- the line of the next end of the log of this site; none where all its ends are decided
abbrev pub IsLeftLine : List SiteLog → (ℕ → Type 0) → (site : ℕ) → SiteLog → List ℕ → Type 0
IsLeftLine sites IsDecided site log line =
    ((place : ℕ) × (e : Entry) × IsNextEnd IsDecided log.entries place e
    × (line ≡ left_text e site (line_of sites site place)))
    ⊎ (AreDecidedBefore IsDecided log.entries (length log.entries) × (line ≡ []))

-- those of the logs from this site on, one after another
abbrev pub AreLeftLines : List SiteLog → (ℕ → Type 0) → (site : ℕ) → List SiteLog → List ℕ → Type 0
AreLeftLines sites IsDecided site [] text = text ≡ []
AreLeftLines sites IsDecided site (log ∷ logs) text = (line : List ℕ) × (rest : List ℕ)
    × IsLeftLine sites IsDecided site log line
    × AreLeftLines sites IsDecided (suc site) logs rest × (text ≡ line ++ rest)

-- what the slow search tells: the transactions alone that stand in a cycle, or are decided in a stuck
-- set
abbrev pub IsShownBy : Refusal → List SiteLog → List ℕ → Type 0
IsShownBy Order sites txs = IsRing (EndsBefore sites) txs
IsShownBy Ranks sites txs = IsRing (PrecedesCommitted sites) txs
IsShownBy Walk sites txs = IsStuck sites txs

-- the lines are those of a cycle's steps that the logs have, or of the next ends where a set is stuck; or
-- the transactions that the slow search found
abbrev pub AreLinesOf : Refusal → List SiteLog → List ℕ → Type 0
AreLinesOf Order sites lines =
    ((steps : List EndStep) × IsEndCycle sites steps × (lines ≡ flat_map (end_line sites) steps))
    ⊎ ((txs : List ℕ) × IsShownBy Order sites txs × (lines ≡ flat_map tx_line txs))
AreLinesOf Ranks sites lines =
    ((steps : List ConflictStep) × IsConflictCycle sites steps × (lines ≡ flat_map (conflict_line sites) steps))
    ⊎ ((txs : List ℕ) × IsShownBy Ranks sites txs × (lines ≡ flat_map tx_line txs))
AreLinesOf Walk sites lines =
    ((decided : List ℕ) × IsStuck sites decided × AreLeftLines sites (Contains decided) 0 sites lines)
    ⊎ ((txs : List ℕ) × IsShownBy Walk sites txs × (lines ≡ flat_map tx_line txs))
