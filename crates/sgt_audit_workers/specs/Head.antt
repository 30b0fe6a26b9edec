-- What the first two lines of a text say.
use Rattle.std.specs.Prelude.{◌≡◌, ℕ, Bool, List, Result, Ok, Err}
use Rattle.sgt_names.specs.declared.outcome.EngineFail.{EngineFail}
use Rattle.sgt_names.specs.declared.outcome.EngineFail.TheVariants.{Memory}
use Rattle.sgt_bundle.specs.Text.{certificate_text}
use Rattle.sgt_audit_decisions.specs.Steps.{AreStepsOf}
use Rattle.sgt_audit.specs.Faults.{Breaks, Rule, headed, whole}
use Rattle.sgt_audit.specs.declared.faults.Fault.{Fault}
use Rattle.sgt_audit_sections.specs.Sections.{IsFaultlessCertificate}
use Rattle.sgt_audit_workers.specs.declared.head.Head.{Head}

-- a certificate with no fault, how many sites it has, and the steps of its walks
pub record IsHead (h : Head) : Type 0 where
  pub good : IsFaultlessCertificate h.certificate
  pub sites : h.sites ≡ h.certificate.sites
  pub steps : AreStepsOf h.certificate.decisions h.steps

-- the second line is that of such a certificate, behind a first line of this format; or this is its
-- least fault
abbrev pub IsHeadOf : (second : Bool) → (line : List ℕ) → Result (Result Head Fault) EngineFail
    → Type 0
IsHeadOf second line (Ok (Ok h)) =
    IsHead h × (h.second ≡ second) × (line ≡ certificate_text h.certificate)
IsHeadOf second line (Ok (Err f)) = Breaks (Rule (headed second) (whole line)) f
IsHeadOf second line (Err e) = e ≡ Memory
