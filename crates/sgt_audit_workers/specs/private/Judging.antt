-- Line 2, read in a thread of its own.
use Rattle.std.specs.Prelude.{◌≡◌, ℕ, Bool, List, Result, Ok, Err}
use Rattle.sgt_names.specs.declared.outcome.EngineFail.{EngineFail}
use Rattle.sgt_names.specs.declared.outcome.EngineFail.TheVariants.{Memory}
use Rattle.sgt_bundle.specs.Text.{IsCertificate, certificate_text}
use Rattle.sgt_audit_workers.specs.Head.{IsHeadOf}
use Rattle.sgt_audit_workers.specs.declared.judging.Found.{Found}
use Rattle.sgt_audit_workers.specs.declared.judging.Found.TheVariants as found
use Rattle.sgt_audit_workers.specs.declared.judging.Judging.{Judging}
use Rattle.sgt_audit_workers.specs.declared.judging.Underway.{Underway}
use Rattle.sgt_audit_workers.specs.declared.judging.Underway.TheVariants.{There, Here}
use Rattle.sgt_audit_workers.specs.declared.rules.Once.{Once}

-- the line is that of this certificate
pub record IsOnceOf (bytes : List ℕ) (once : Once) : Type 0 where
  pub spelled : IsCertificate once.certificate
  pub line : bytes ≡ certificate_text once.certificate
  pub sites : once.sites ≡ once.certificate.sites

-- the second line is this, behind a first line of this format
abbrev pub IsFoundOf : (second : Bool) → (line : List ℕ) → Result Found EngineFail → Type 0
IsFoundOf second line (Ok (found.Once once)) = IsOnceOf line once
IsFoundOf second line (Ok (found.Judged judged)) = IsHeadOf second line (Ok judged)
IsFoundOf second line (Err e) = e ≡ Memory

-- what comes back is what the line is
abbrev pub WillFind : (second : Bool) → (line : List ℕ) → Underway → Type 0
WillFind second line (There handle) =
    (handle.promise.second ≡ second) × (handle.promise.line.value.items ≡ line)
WillFind second line (Here reading) = IsFoundOf second line reading.found

-- what comes back says what the line does
pub record WillSay (second : Bool) (line : List ℕ) (judging : Judging) : Type 0 where
  pub format : judging.second ≡ second
  pub reading : WillFind second line judging.reading
