-- What an input is drawn as.
use Rattle.std.specs.Prelude.{◌≡◌, ◌⊎◌, ℕ, List, [], Option, IfSome}
use Rattle.std.specs.Io.KnownBytes.{Appends}
use Rattle.sgt_names.specs.Device.{AppendsOrForgets, WritesFront}
use Rattle.sgt_names.specs.declared.outcome.Outcome.{Outcome}
use Rattle.sgt_names.specs.declared.outcome.Outcome.TheVariants.{Yes, No, Unreadable}
use Rattle.sgt_bundle.specs.Parts.{Parts}
use Rattle.sgt_bundle.specs.Text.{Spells}
use Rattle.sgt_bundle.specs.Valid.{IsValid}
use Rattle.sgt_audit.specs.Faults.{FirstFault}
use Rattle.sgt_audit.specs.Verdict.{text_of}
use Rattle.sgt_audit.specs.declared.faults.Fault.{Fault}
use Rattle.sgt_audit.specs.declared.verdict.Verdict.TheVariants as verdict
use Rattle.sgt_draw.specs.Picture.{IsPictureOf}
use Rattle.sgt_draw.specs.Wanted.{AreWanted}
use Rattle.sgt_draw.specs.declared.node.Node.{Node}
use Rattle.sgt_draw.specs.declared.task.Wanted.{Wanted}

-- the picture of a bundle: in the format that is wanted, with the transactions that are wanted and no others
abbrev pub IsBundlePicture : Wanted → Parts → List ℕ → Type 0
IsBundlePicture wanted b text = (nodes : List Node) × AreWanted wanted.is_dot wanted.tx b.certificate.decisions nodes
    × IsPictureOf wanted.is_dot nodes text

-- the text that an input is answered by: with a yes, which is for a valid bundle alone, its picture,
-- and with a no the line of its first fault
abbrev pub IsDrawn : Wanted → Option (List ℕ) → Outcome → List ℕ → Type 0
IsDrawn wanted told Yes text =
    (b : Parts) × IsValid b × IfSome told (λ bytes. Spells bytes b) × IsBundlePicture wanted b text
IsDrawn wanted told No text =
    (line : ℕ) × (fault : Fault) × IfSome told (λ bytes. FirstFault bytes line fault)
    × (text ≡ text_of (verdict.No line fault))
IsDrawn wanted told Unreadable text = ⊥

-- that text was written
abbrev pub WroteDrawn : Wanted → (told : Option (List ℕ)) → Outcome → (old new : Option (List ℕ)) → Type 0
WroteDrawn wanted told outcome old new =
    (text : List ℕ) × IsDrawn wanted told outcome text × Appends old new text

-- nothing was written, or a front of the text that the input is answered by, and less than the
-- whole text
abbrev pub WroteDrawnFront : Wanted → (told old new : Option (List ℕ)) → Type 0
WroteDrawnFront wanted told old new = AppendsOrForgets old new []
    ⊎ ((outcome : Outcome) × (text : List ℕ) × IsDrawn wanted told outcome text × WritesFront old new text)
