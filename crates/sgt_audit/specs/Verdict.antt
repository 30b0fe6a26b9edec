-- The auditor's verdict on a text.
use Rattle.std.specs.Prelude.{◌≡◌, ◌<◌, ℕ, List, ◌++◌, length, take, codes, decimal, count_by, Option, All, ◌⊎◌, [], IfSome}
use Rattle.sgt_names.specs.Device.{AppendsOrForgets}
use Rattle.sgt_bundle.specs.Parts.{Parts}
use Rattle.sgt_bundle.specs.Certificate.{AreRanks, IsDecidedOnce, is_commit, is_refusal, is_withdrawal, ranks}
use Rattle.sgt_bundle.specs.Serial.{SerialAgrees}
use Rattle.sgt_bundle.specs.Valid.{Agrees, IsRanked, IsValid, RefusedLieOnCycles}
use Rattle.sgt_bundle.specs.Text.{Spells}
use Rattle.sgt_bundle.specs.declared.certificate.Decision.{Decision}
use Rattle.sgt_audit.specs.declared.verdict.Verdict.{Verdict}
use Rattle.sgt_audit.specs.declared.verdict.Verdict.TheVariants.{Yes, No}
use Rattle.sgt_audit.specs.declared.engine.Audited.{Audited}
use Rattle.sgt_audit.specs.declared.engine.Audited.TheVariants as audited
use Rattle.sgt_audit.specs.Faults.{fault_number, FirstFault}

-- the yes with the counts of these decisions
abbrev pub yes_of : List Decision → Verdict
yes_of ds = Yes (count_by is_commit ds) (count_by is_refusal ds) (count_by is_withdrawal ds)

-- the verdict on a text: yes where it spells a valid bundle, with the counts of its decisions, else
-- its first fault
abbrev pub IsVerdict : List ℕ → Verdict → Type 0
IsVerdict bytes (Yes committed refused withdrawn) = (b : Parts) × Spells bytes b × IsValid b
    × (Yes committed refused withdrawn ≡ yes_of b.certificate.decisions)
IsVerdict bytes (No line f) = FirstFault bytes line f

-- its line, with the LF
abbrev pub text_of : Verdict → List ℕ
text_of (Yes committed refused withdrawn) =
    codes "yes " ++ (decimal committed ++ (codes " committed "
    ++ (decimal refused ++ (codes " refused " ++ (decimal withdrawn ++ codes " withdrawn\n")))))
text_of (No line f) = codes "no line " ++ (decimal line ++ (codes " F" ++ (decimal (fault_number f) ++ codes "\n")))

-- nothing was written, or a front of the line of the verdict on the bytes told, and less than the
-- whole line
abbrev pub WroteFront : (told old new : Option (List ℕ)) → Type 0
WroteFront told old new = AppendsOrForgets old new []
    ⊎ ((v : Verdict) × (n : ℕ) × (n < length (text_of v))
    × IfSome told (λ bytes. IsVerdict bytes v) × AppendsOrForgets old new (take n (text_of v)))

-- what a text was found to spell: a valid bundle, or its first fault
abbrev pub IsAudited : List ℕ → Audited → Type 0
IsAudited bytes (audited.Valid b) = Spells bytes b × IsValid b
IsAudited bytes (audited.No line f) = FirstFault bytes line f

-- a bundle that is handed out is valid, also where the reader tells nothing
abbrev pub HandsOutValid : Audited → Type 0
HandsOutValid (audited.Valid b) = IsValid b
HandsOutValid (audited.No line f) = Unit {0}

-- the stream spells site logs and a certificate such that running the committed transactions alone,
-- one after another by rank, gives every read value and final value recorded for them, each log's
-- transactions end as the certificate decides and in the order of its decisions, conflicting
-- operations stand in rank order at every site, and each refused transaction lies on a cycle of
-- logged conflicts with transactions certified before it
pub record HoldsHeadline (bytes : List ℕ) : Type 0 where
  pub bundle : Parts
  pub spelled : Spells bytes bundle
  pub serial : SerialAgrees bundle
  -- by rank: each transaction is decided once, and the ranks of the n committed ones are 0 to n -
  -- 1, each once
  pub once : IsDecidedOnce bundle.certificate.decisions
  pub ranks : AreRanks (ranks bundle.certificate.decisions)
  pub agrees : All (λ log. Agrees bundle.certificate.decisions log.entries) bundle.sites
  pub ranked : All (λ log. IsRanked bundle.certificate.decisions log.entries) bundle.sites
  pub cycles : RefusedLieOnCycles bundle

-- a yes says so
abbrev pub SaysHeadline : List ℕ → Verdict → Type 0
SaysHeadline bytes (Yes committed refused withdrawn) = HoldsHeadline bytes
SaysHeadline bytes (No line f) = Unit {0}
