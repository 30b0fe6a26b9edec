-- What the first sections of a text were found to be.
use Rattle.std.specs.Prelude.{◌≡◌, ◌↔◌, ◌⊎◌, ◌≤◌, ◌+◌, ◌^◌, ⊤, ℕ, Bool, false, IsTrue, List, [], ◌∷◌, ◌++◌, length, map, Option, Some, None}
use Rattle.sgt_notation.specs.Spelling.{line_text, text_of_lines}
use Rattle.sgt_bundle.specs.Text.{section_lines}
use Rattle.sgt_bundle.specs.declared.bundle.SiteLog.{SiteLog}
use Rattle.sgt_bundle.specs.declared.certificate.Certificate.{Certificate}
use Rattle.sgt_audit.specs.Faults.{FirstFault, reach}
use Rattle.sgt_audit.specs.declared.faults.Fault.{Fault}
use Rattle.sgt_audit.specs.declared.verdict.Verdict.{Verdict}
use Rattle.sgt_audit.specs.Verdict.{IsVerdict}
use Rattle.sgt_audit_sections.specs.declared.judging.Judged.{Judged}
use Rattle.sgt_audit_sections.specs.declared.judging.Judged.TheVariants.{Whole, Faulty, Open, Unfit}
use Rattle.sgt_audit_sections.specs.Sections.{AllStepsAreFound, AreFaultlessSections, IsFaultlessCertificate, front_text, lines_in_front}
use Rattle.sgt_audit_workers.specs.declared.tally.Tally.{Tally}

-- the tally is that of these logs, the first ones of the certificate's sites
pub record IsTally (second : Bool) (c : Certificate) (logs : List SiteLog) (t : Tally) : Type 0 where
  pub certificate : IsFaultlessCertificate c
  pub faultless : AreFaultlessSections second c logs
  pub whole : t.whole ≡ length logs
  pub lines : t.lines ≡ lines_in_front logs
  pub met : IsTrue t.met ↔ AllStepsAreFound c.decisions logs

-- the verdict on a text; its fault is behind this front of it
abbrev pub IsVerdictBehind : (front rest : List ℕ) → Verdict → Type 0
IsVerdictBehind front rest v = IsVerdict (front ++ rest) v
    × ((n : ℕ) (f : Fault) (first : FirstFault (front ++ rest) n f)
    → length front ≤ reach (front ++ rest) n f first)

-- after one more section of these bytes, with more behind them: it is whole, and the tally is that
-- with its log; or this is the verdict on the text
abbrev pub Adds : Bool → Certificate → List SiteLog → (bytes more : List ℕ) → Tally
    → Option Verdict → Type 0
Adds second c logs bytes more new None = (log : SiteLog) × IsTally second c (logs ++ log ∷ []) new
    × (bytes ≡ text_of_lines (map line_text (section_lines (length logs) log)))
Adds second c logs bytes more new (Some v) =
    IsVerdictBehind (front_text second c logs) (bytes ++ more) v

-- behind so many lines this is not added: more than one section, one that goes on and is not the last, or one with a
-- line past 2^64 - 1
abbrev pub IsLost : (lines : ℕ) → (is_last : Bool) → Judged → Type 0
IsLost lines is_last (Whole many met) = 2 ^ 64 ≤ lines + many
IsLost lines is_last (Faulty line f) = 2 ^ 64 ≤ lines + line
IsLost lines is_last (Open line rest) = (is_last ≡ false) ⊎ (2 ^ 64 ≤ lines + line)
IsLost lines is_last Unfit = ⊤
