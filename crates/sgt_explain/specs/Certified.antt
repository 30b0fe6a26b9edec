-- What is told of a first fault by the certificate.
use Rattle.std.specs.Prelude.{◌≡◌, ◌≢◌, ℕ, List, unwrap_or}
use Rattle.sgt_notation.specs.declared.SectionLine.{SectionLine}
use Rattle.sgt_bundle.specs.Text.{certificate_text, IsCertificate}
use Rattle.sgt_bundle.specs.Line.{Refuses}
use Rattle.sgt_bundle.specs.declared.certificate.Certificate.{Certificate}
use Rattle.sgt_bundle.specs.declared.certificate.Decision.{Decision}
use Rattle.sgt_bundle.specs.declared.fault.CertFault.{CertFault}
use Rattle.sgt_bundle.specs.declared.fault.CertFault.TheVariants.{Memory}
use Rattle.sgt_audit.specs.declared.faults.Fault.TheVariants as fault
use Rattle.sgt_audit.specs.Faults.{FirstFault, bytes_of}
use Rattle.sgt_explain_lines.specs.Told.{ShowsLine}
use Rattle.sgt_explain_lines.specs.Numbered.{open_site, numbered_entries}
use Rattle.sgt_explain_lines.specs.declared.section.Logged.{Logged}
use Rattle.sgt_explain_certificate.specs.Told.{fault_words}
use Rattle.sgt_explain_decisions.specs.declared.placed.Placed.{Placed}
use Rattle.sgt_explain_decisions.specs.Placed.{ArePlaced}
use Rattle.sgt_explain_decisions.specs.Decided.{TellsDecisionOrder}
use Rattle.sgt_explain_decisions.specs.Ends.{TellsEnd, TellsNotEnded}
use Rattle.sgt_explain.specs.Lines.{IsEntryOf}

-- of a line that is no certificate: the name by which it is refused, and the line
abbrev pub TellsNoCertificate : List ℕ → ℕ → (old new : List ℕ) → Type 0
TellsNoCertificate bytes n old new = (first : FirstFault bytes n fault.Certificate)
    → (e : CertFault) → e ≢ Memory → Refuses (bytes_of first.next) e
    → ShowsLine (fault_words e) 2 (bytes_of first.next) old new

-- the line spells the certificate
abbrev pub SpellsCertificate : List ℕ → Certificate → Type 0
SpellsCertificate line c = IsCertificate c × (line ≡ certificate_text c)

-- the entry of the line is shown with the end of its transaction in the section, if it has one, and
-- the decision
pub record ShowsAgainstEnd (decisions : List Decision) (before : List SectionLine) (line : List ℕ) (n : ℕ)
    (old new : List ℕ) : Type 0 where
  pub logged : Logged
  pub entry : IsEntryOf line n logged
  pub placed : List Placed
  pub are : ArePlaced decisions placed
  pub told : TellsEnd decisions placed (numbered_entries before) logged old new

-- the end of the line is shown, and before it the first of the section that was decided later
pub record ShowsMisplaced (decisions : List Decision) (before : List SectionLine) (line : List ℕ) (n : ℕ)
    (old new : List ℕ) : Type 0 where
  pub logged : Logged
  pub entry : IsEntryOf line n logged
  pub told : TellsDecisionOrder decisions (numbered_entries before) logged old new

-- the first entry of the section is shown whose transaction has no end there, and between which
-- ends that has to stand
abbrev pub ShowsUnended : List Decision → List SectionLine → (old new : List ℕ) → Type 0
ShowsUnended decisions before old new =
    TellsNotEnded decisions (numbered_entries before) (unwrap_or (open_site before) 0) old new
