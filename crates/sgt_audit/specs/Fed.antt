-- What an auditor was fed.
use Rattle.std.specs.Prelude.{◌≡◌, ℕ, ◌+◌, ◌<◌, ◌≤◌, ◌^◌, Bool, List, ◌∷◌, ◌++◌, length, Option, Some, None}
use Rattle.sgt_notation.specs.Spelling.{text_of_lines}
use Rattle.sgt_bundle.specs.Text.{certificate_text, format_line}
use Rattle.sgt_bundle.specs.declared.certificate.Certificate.{Certificate}
use Rattle.sgt_audit.specs.declared.faults.Fault.{Fault}
use Rattle.sgt_audit.specs.declared.auditor.Auditor.{Auditor}
use Rattle.sgt_audit.specs.declared.auditor.Standing.{Standing}
use Rattle.sgt_audit.specs.declared.auditor.Standing.TheVariants.{Going, Found, Spent}
use Rattle.sgt_audit.specs.Faults.{Stage, FirstFault, IsFaultless, lines_so_far}
use Rattle.sgt_audit.specs.Progress.{Stands}

-- the number is m, as far as it can tell
abbrev pub IsNumbered : ℕ → ℕ → Type 0
IsNumbered number m = m < 2 ^ 64 → number ≡ m

-- these lines have no fault and are what is kept, or their text has this first fault, whatever
-- follows
abbrev pub HasRead : Standing → List (List ℕ) → Type 0
HasRead (Going machine line) lines = (s : Stage) × Stands machine.progress s
    × (lines_so_far s ≡ lines) × IsNumbered line (length lines + 1)
HasRead (Found first) lines = (m : ℕ)
    × ((rest : List ℕ) → FirstFault (text_of_lines lines ++ rest) m first.fault)
    × (m ≤ length lines) × IsNumbered first.line m
HasRead Spent lines = Unit {0}

-- the lines of a bundle in the first or the second format, with this certificate and then these
-- lines
abbrev pub bundle_lines : Bool → Certificate → List (List ℕ) → List (List ℕ)
bundle_lines second c fed = format_line second ∷ certificate_text c ∷ fed

-- the auditor was made for this format and this certificate, and then fed these lines
abbrev pub HasFed : Auditor → Bool → Certificate → List (List ℕ) → Type 0
HasFed auditor second c fed = HasRead auditor.standing (bundle_lines second c fed)

-- a growth was refused, and every call answers so from now on
abbrev pub IsSpent : Standing → Type 0
IsSpent Spent = Unit {0}
IsSpent _ = ⊥

abbrev pub HasFailed : Auditor → Type 0
HasFailed auditor = IsSpent auditor.standing

-- the first fault that is known, with its line
abbrev pub fault_in : Standing → Option (ℕ × Fault)
fault_in (Found first) = Some (first.line, first.fault)
fault_in _ = None

abbrev pub known_fault : Auditor → Option (ℕ × Fault)
known_fault auditor = fault_in auditor.standing

-- none of these lines has a fault
abbrev pub HaveNoFault : List (List ℕ) → Type 0
HaveNoFault lines = (s : Stage) × IsFaultless s × (lines_so_far s ≡ lines)
