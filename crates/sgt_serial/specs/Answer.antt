-- What an input is answered by.
use Rattle.std.specs.Prelude.{◌≡◌, ◌⊎◌, ℕ, List, [], Option, IfSome}
use Rattle.std.specs.Io.KnownBytes.{Appends}
use Rattle.sgt_names.specs.Device.{AppendsOrForgets, WritesFront}
use Rattle.sgt_names.specs.declared.outcome.Outcome.{Outcome}
use Rattle.sgt_names.specs.declared.outcome.Outcome.TheVariants.{Yes, No, Unreadable}
use Rattle.sgt_bundle.specs.Parts.{Parts}
use Rattle.sgt_bundle.specs.Text.{Spells}
use Rattle.sgt_bundle.specs.Valid.{IsValid}
use Rattle.sgt_audit.specs.Faults.{FirstFault}
use Rattle.sgt_audit.specs.Verdict.{text_of}
use Rattle.sgt_audit.specs.declared.faults.Fault.{Fault}
use Rattle.sgt_audit.specs.declared.verdict.Verdict.TheVariants as verdict
use Rattle.sgt_serial.specs.Report.{report_of}
use Rattle.sgt_serial.specs.Text.{report_text}

-- the text that an input is answered by: with a yes the run of the valid bundle that it spells,
-- with a no the line of its first fault
abbrev pub IsAnswer : Option (List ℕ) → Outcome → List ℕ → Type 0
IsAnswer told Yes text = (b : Parts) × IsValid b × IfSome told (λ bytes. Spells bytes b)
    × (text ≡ report_text (report_of b))
IsAnswer told No text =
    (line : ℕ) × (fault : Fault) × IfSome told (λ bytes. FirstFault bytes line fault)
    × (text ≡ text_of (verdict.No line fault))
IsAnswer told Unreadable text = ⊥

-- that text was written
abbrev pub WroteAnswer : (told : Option (List ℕ)) → Outcome → (old new : Option (List ℕ)) → Type 0
WroteAnswer told outcome old new = (text : List ℕ) × IsAnswer told outcome text
    × Appends old new text

-- nothing was written, or a front of the text that the input is answered by, and less than the
-- whole text
abbrev pub WroteAnswerFront : (told old new : Option (List ℕ)) → Type 0
WroteAnswerFront told old new = AppendsOrForgets old new []
    ⊎ ((outcome : Outcome) × (text : List ℕ) × IsAnswer told outcome text
    × WritesFront old new text)
