-- The sections of a text by themselves, with the certificate lent: what a section's own fault is,
-- and when it has none.
use Rattle.std.specs.Prelude.{◌≡◌, ◌≢◌, ◌<◌, ℕ, ◌+◌, Bool, List, [], ◌∷◌, ◌++◌, length, map, replicate, All, Some, slice_get}
use Rattle.sgt_notation.specs.Spelling.{line_text, text_of_lines}
use Rattle.sgt_notation.specs.declared.SectionLine.{SectionLine}
use Rattle.sgt_bundle.specs.Parts.{IsShapedLog}
use Rattle.sgt_bundle.specs.Text.{certificate_text, format_line, section_lines, sections_from, IsCertificate, AreSections}
use Rattle.sgt_bundle.specs.declared.certificate.Certificate.{Certificate}
use Rattle.sgt_bundle.specs.declared.certificate.Decision.{Decision}
use Rattle.sgt_bundle.specs.declared.bundle.SiteLog.{SiteLog}
use Rattle.sgt_audit_decisions.specs.Steps.{edges_in}
use Rattle.sgt_audit.specs.declared.faults.Fault.{Fault}
use Rattle.sgt_audit.specs.declared.faults.Fault.TheVariants.{WalkStep}
use Rattle.sgt_audit.specs.Faults.{fault_number, Keeps, KeepsItself, IsLineIn, Piece, ComesNext, Rule, Breaks, within}
use Rattle.sgt_audit.specs.Kept.{IsMet}

-- a log with nothing in it
abbrev pub empty_log : SiteLog
empty_log = record { items = []; entries = []; finals = [] }

-- the lines of the section of site k, with empty sections of the sites before it in front
abbrev pub alone : ℕ → List SectionLine → List SectionLine
alone k own = sections_from 0 (replicate k empty_log) ++ own

-- what a line of the section of site k keeps there, behind these lines of it: every rule but that
-- of the walks
abbrev pub KeepsAlone : Certificate → ℕ → List SectionLine → SectionLine → Type 0
KeepsAlone c k own line = (f : Fault) → fault_number f < fault_number WalkStep
    → Keeps c (alone k own) line f

-- each of these lines of the section does
abbrev pub AreKeptAlone : Bool → Certificate → ℕ → List SectionLine → Type 0
AreKeptAlone second c k own = (earlier later : List SectionLine) (l : SectionLine)
    → own ≡ earlier ++ l ∷ later
    → IsLineIn second l × KeepsAlone c k earlier l

-- The bytes, as the section of site k, have a fault of their own: line n of them has f, of the
-- faults of that line the least, and no line
-- before it has one. The sections before are not asked: they might be empty.
pub record OwnFault (second : Bool) (c : Certificate) (k : ℕ) (bytes : List ℕ) (n : ℕ) (f : Fault) : Type 0 where
  -- the lines before it
  pub own : List SectionLine
  pub rest : List ℕ
  pub next : Piece
  pub text : bytes ≡ text_of_lines (map line_text own) ++ rest
  pub kept : AreKeptAlone second c k own
  -- they are not all that there is to be
  pub open_yet : AreSections c.sites (alone k own) → ⊥
  pub number : n ≡ length own + 1
  pub comes : ComesNext rest next
  pub breaks : Breaks (Rule (within second c (alone k own)) next) f
  pub others : f ≢ WalkStep

-- the section of site k is whole, and has no fault of its own
pub record IsFaultlessSection (second : Bool) (c : Certificate) (k : ℕ) (log : SiteLog) : Type 0 where
  pub shaped : IsShapedLog log
  pub kept : AreKeptAlone second c k (section_lines k log)

-- the sections of the first sites
abbrev pub AreFaultlessSections : Bool → Certificate → List SiteLog → Type 0
AreFaultlessSections second c logs = (k : ℕ) (log : SiteLog) → slice_get logs k ≡ Some log
    → IsFaultlessSection second c k log

-- each step of a walk at site k is a conflict in its log
abbrev pub StepsAreFound : List Decision → ℕ → SiteLog → Type 0
StepsAreFound decisions k log =
    All (λ e. e.step.label.site ≡ k → IsMet log.entries e) (edges_in decisions)

abbrev pub AllStepsAreFound : List Decision → List SiteLog → Type 0
AllStepsAreFound decisions logs = (k : ℕ) (log : SiteLog) → slice_get logs k ≡ Some log
    → StepsAreFound decisions k log

-- a certificate with no fault by itself
pub record IsFaultlessCertificate (c : Certificate) : Type 0 where
  pub spelled : IsCertificate c
  pub itself : (f : Fault) → KeepsItself c.decisions f

-- the text up to the sections of the first sites, with them; and how many lines that are
abbrev pub front_lines : Bool → Certificate → List SiteLog → List (List ℕ)
front_lines second c logs =
    format_line second ∷ certificate_text c ∷ map line_text (sections_from 0 logs)

abbrev pub front_text : Bool → Certificate → List SiteLog → List ℕ
front_text second c logs = text_of_lines (front_lines second c logs)

abbrev pub lines_in_front : List SiteLog → ℕ
lines_in_front logs = 2 + length (sections_from 0 logs)
