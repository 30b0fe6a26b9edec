-- What the first sections of a text came to.
use Rattle.std.specs.Prelude.{◌≡◌, ◌≤◌, ℕ, ◌+◌, ◌*◌, List, length, Option, Some, None, ⊤, IfSome, Result, Ok, Err}
use Rattle.std.specs.Io.KnownBytes.{Consumes}
use Rattle.sgt_bundle.specs.Text.{certificate_text}
use Rattle.sgt_bundle.specs.declared.bundle.SiteLog.{SiteLog}
use Rattle.sgt_audit.specs.Faults.{FirstFault, reach}
use Rattle.sgt_audit.specs.Verdict.{IsVerdict}
use Rattle.sgt_audit.specs.declared.faults.Fault.{Fault}
use Rattle.sgt_audit.specs.declared.verdict.Verdict.{Verdict}
use Rattle.sgt_audit_sections.specs.Sections.{front_text}
use Rattle.sgt_audit_workers.specs.Cut.{longest}
use Rattle.sgt_audit_workers.specs.Reads.{Reader}
use Rattle.sgt_audit_workers.specs.Tallies.{IsTally}
use Rattle.sgt_audit_workers.specs.declared.head.Head.{Head}
use Rattle.sgt_audit_workers.specs.declared.job.Job.{Job}
use Rattle.sgt_audit_workers.specs.declared.sections.Text.{Text}
use Rattle.sgt_audit_workers.specs.declared.tally.Tally.{Tally}
use Rattle.sgt_audit_workers.specs.private.Jobs.{IsIdle}
use Rattle.sgt_audit_workers.specs.private.Texts.{IsLeft}

-- the tally is that of these logs, with which the text begins
pub record IsTallied (h : Head) (told coming : Option (List ℕ)) (t : Tally) : Type 0 where
  pub logs : List SiteLog
  pub tally : IsTally h.second h.certificate logs t
  pub front : Consumes told coming (front_text h.second h.certificate logs)

-- how many bytes the second line has
abbrev pub second_size : Head → ℕ
second_size h = length (certificate_text h.certificate)

-- this is the verdict on the text; a fault is behind the second line, and what was read up to here has so many bytes
-- at most behind it
abbrev pub IsFound : (second : ℕ) → (told left : Option (List ℕ)) → (behind : ℕ) → Verdict → Type 0
IsFound second None left behind v = ⊤
IsFound second (Some bytes) None behind v = ⊥
IsFound second (Some bytes) (Some rest) behind v = IsVerdict bytes v
    × ((n : ℕ) (f : Fault) (first : FirstFault bytes n f) → (second ≤ reach bytes n f first)
    × (length bytes ≤ length rest + reach bytes n f first + behind))

-- the same, by how often the reader was asked
abbrev pub IsAnswer : (second : ℕ) → (first now : Reader) → (behind : ℕ) → Verdict → Type 0
IsAnswer second first now behind v = IfSome first.told (λ bytes. IsVerdict bytes v
    × ((n : ℕ) (f : Fault) (fault : FirstFault bytes n f) → (second ≤ reach bytes n f fault)
    × (now.asked ≤ first.asked + reach bytes n f fault + behind)))

-- the tally has one section more, and its worker may judge those behind it; or this is the verdict
-- on the text
abbrev pub Takes : Head → (most : ℕ) → (told coming : Option (List ℕ)) → (old new : Tally)
    → Result Job Verdict → Type 0
Takes h most told coming old new (Ok job) =
    IsTallied h told coming new × (new.whole ≡ old.whole + 1) × IsIdle h new.whole job
Takes h most told coming old new (Err v) = IsFound (second_size h) told coming (longest most) v

-- the section that was open is judged, and the text has no fault so far; or this is the verdict
abbrev pub OpenEnds : Head → (first : Reader) → Text → (now : Reader) → Tally → Option Verdict
    → Type 0
OpenEnds h first text now t None = (left : Option (List ℕ)) × IsTallied h first.told left t
    × IsLeft first text now left
OpenEnds h first text now t (Some v) = IsAnswer (second_size h) first now (2 * longest text.most) v
