-- What logs without a certificate are answered by.
use Rattle.std.specs.Prelude.{◌≡◌, ◌⊎◌, ℕ, Bool, true, false, List, [], ◌++◌, codes, decimal, length, Option, IfSome}
use Rattle.std.specs.Io.KnownBytes.{Appends}
use Rattle.sgt_names.specs.Device.{AppendsOrForgets, WritesFront}
use Rattle.sgt_names.specs.declared.outcome.Outcome.{Outcome}
use Rattle.sgt_names.specs.declared.outcome.Outcome.TheVariants.{Yes, No, Unreadable}
use Rattle.sgt_bundle.specs.Parts.{Parts}
use Rattle.sgt_bundle.specs.Text.{Spells, certificate_text}
use Rattle.sgt_bundle.specs.Valid.{IsValid}
use Rattle.sgt_bundle.specs.declared.certificate.Certificate.{Certificate}
use Rattle.sgt_bundle.specs.declared.bundle.SiteLog.{SiteLog}
use Rattle.sgt_audit.specs.declared.faults.Fault.{Fault as AnyFault}
use Rattle.sgt_audit.specs.Faults.{fault_number}
use Rattle.sgt_certify_faults.specs.Faults.{GoesOn, IsFaultless, IsFirstFault}
use Rattle.sgt_certify_logs.specs.Certifiable.{AreCertifiable, HasNoCertificate, IsWithLine, SpellsLogs}
use Rattle.sgt_certify_logs.specs.Witness.{HaveConflictsInACycle, HaveEndsInACycle, IsStuck}
use Rattle.sgt_certify.specs.Lines.{AreLinesOf}
use Rattle.sgt_certify.specs.declared.taking.Stop.{Stop}
use Rattle.sgt_certify.specs.declared.taking.Stop.TheVariants.{All, Long, Fault}
use Rattle.sgt_certify.specs.declared.taking.Taken.{Taken}
use Rattle.sgt_certify.specs.declared.taking.Taken.TheVariants as taken
use Rattle.sgt_certify.specs.declared.refuting.Refusal.{Refusal}
use Rattle.sgt_certify.specs.declared.refuting.Refusal.TheVariants.{Order, Ranks, Walk}

-- the text spells a valid bundle
abbrev pub SpellsValid : List ℕ → Type 0
SpellsValid text = (b : Parts) × Spells text b × IsValid b

-- the text is the bytes with a certificate put in as their second line, and spells a valid bundle
-- of the very logs that they spell
pub record IsCertified (bytes text : List ℕ) : Type 0 where
  pub bundle : Parts
  pub logs : SpellsLogs bytes bundle.sites
  pub line : IsWithLine bytes (certificate_text bundle.certificate) text
  pub spelled : Spells text bundle
  pub valid : IsValid bundle

-- the bytes spell logs that this certificate, of as many sites, makes valid
abbrev pub IsCertifiedBy : List ℕ → Certificate → Type 0
IsCertifiedBy bytes c = (sites : List SiteLog) × SpellsLogs bytes sites
    × IsValid (record { certificate = c; sites = sites }) × (c.sites ≡ length sites)

-- the bytes spell logs that some certificate makes valid
abbrev pub HasCertificate : List ℕ → Type 0
HasCertificate bytes = (sites : List SiteLog) × SpellsLogs bytes sites × AreCertifiable sites

-- the first line of a refusal
abbrev pub refusal_text : Refusal → List ℕ
refusal_text Order = codes "no order\n"
refusal_text Ranks = codes "no ranks\n"
refusal_text Walk = codes "no walk\n"

-- what the logs have, by which no certificate makes them valid: ends in a cycle, committed
-- conflicts in a cycle, a stuck set
abbrev pub Excludes : Refusal → List SiteLog → Type 0
Excludes Order sites = HaveEndsInACycle sites
Excludes Ranks sites = HaveConflictsInACycle sites
Excludes Walk sites = (decided : List ℕ) × IsStuck sites decided

-- the logs have none of the reasons that are told before this one
abbrev pub IsFirst : Refusal → List SiteLog → Type 0
IsFirst Order sites = Unit {0}
IsFirst Ranks sites = HaveEndsInACycle sites → ⊥
IsFirst Walk sites = (HaveEndsInACycle sites → ⊥) × (HaveConflictsInACycle sites → ⊥)

-- the text begins with the line of a refusal, the bytes have no fault, the logs that they spell
-- have what that line says and nothing that is told before it, and so no certificate; the lines
-- behind it are those of what they have
pub record IsRefused (bytes text : List ℕ) : Type 0 where
  pub refusal : Refusal
  pub lines : List ℕ
  pub told : text ≡ refusal_text refusal ++ lines
  pub sites : List SiteLog
  pub logs : SpellsLogs bytes sites
  pub faultless : IsFaultless bytes
  pub shown : Excludes refusal sites
  pub first : IsFirst refusal sites
  pub lines_are : AreLinesOf refusal sites lines
  pub none : HasNoCertificate bytes

-- the first of the reasons that the logs have: ends in a cycle; or else committed conflicts in a
-- cycle; or else there is no certificate all the same
abbrev pub IsReason : Refusal → List SiteLog → Type 0
IsReason Order sites = HaveEndsInACycle sites
IsReason Ranks sites = (HaveEndsInACycle sites → ⊥) × HaveConflictsInACycle sites
IsReason Walk sites = (HaveEndsInACycle sites → ⊥) × (HaveConflictsInACycle sites → ⊥)
    × (AreCertifiable sites → ⊥)

-- a no whose first line is this refusal's
abbrev pub Refuses : Refusal → Outcome → List ℕ → Type 0
Refuses refusal outcome text = (outcome ≡ No)
    × ((lines : List ℕ) × (text ≡ refusal_text refusal ++ lines))

-- the line of a fault
abbrev pub fault_text : (line number : ℕ) → List ℕ
fault_text line number = codes "no line " ++ (decimal line ++ (codes " F" ++ (decimal number ++ codes "\n")))

-- the text is the line of the first fault that the bytes have whatever certificate is put in, and
-- so none makes their logs valid
pub record IsFaulty (bytes text : List ℕ) : Type 0 where
  pub line : ℕ
  pub fault : AnyFault
  pub told : text ≡ fault_text line (fault_number fault)
  pub shown : IsFirstFault bytes line fault
  pub none : HasNoCertificate bytes

-- the text that the bytes are answered by: with a yes the bundle, with a no the first fault, or
-- where there is none a refusal
abbrev pub IsAnswer : List ℕ → Outcome → List ℕ → Type 0
IsAnswer bytes Yes text = IsCertified bytes text
IsAnswer bytes No text = IsRefused bytes text ⊎ IsFaulty bytes text
IsAnswer bytes Unreadable text = ⊥

-- the text is all that was told, or all that stands in front of a line that is too long
abbrev pub IsTaken : Option (List ℕ) → List ℕ → Bool → Type 0
IsTaken told text all =
    IfSome told (λ bytes. (more : List ℕ) × (bytes ≡ text ++ more) × GoesOn all more)

-- so the reading of a text stopped, where all of it was read, or what stands in front of a line that is too long; or
-- it has this first fault
abbrev pub IsStop : Option (List ℕ) → List ℕ → Stop → Type 0
IsStop told text All = IsTaken told text true
IsStop told text Long = IsTaken told text false
IsStop told text (Fault first) = IfSome told (λ bytes. IsFirstFault bytes first.line first.fault)

-- the same of what was taken
abbrev pub IsTakenSo : Option (List ℕ) → Taken → Type 0
IsTakenSo told (taken.Text text all) = IsTaken told text.items all
IsTakenSo told (taken.Fault first) = IfSome told (λ bytes. IsFirstFault bytes first.line first.fault)

-- these are all the bytes that were told, which were taken
abbrev pub AreAll : Taken → List ℕ → Type 0
AreAll (taken.Text text true) bytes = text.items ≡ bytes
AreAll _ bytes = ⊥

-- that text was written
abbrev pub WroteAnswer : (told : Option (List ℕ)) → Outcome → (old new : Option (List ℕ)) → Type 0
WroteAnswer told outcome old new = (text : List ℕ)
    × IfSome told (λ bytes. IsAnswer bytes outcome text) × Appends old new text

-- nothing was written, or a front of that text, and less than the whole
abbrev pub WroteAnswerFront : (told old new : Option (List ℕ)) → Type 0
WroteAnswerFront told old new = AppendsOrForgets old new []
    ⊎ ((outcome : Outcome) × (text : List ℕ) × IfSome told (λ bytes. IsAnswer bytes outcome text)
    × WritesFront old new text)
