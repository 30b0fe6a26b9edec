-- What is written of bytes that are to be drawn: a bundle's, or those of logs without a certificate.
use Rattle.std.specs.Prelude.{◌≡◌, ◌⊎◌, ℕ, Bool, List, [], Option, Some, IfSome}
use Rattle.std.specs.Io.KnownBytes.{Appends}
use Rattle.sgt_names.specs.Device.{AppendsOrForgets, WritesFront}
use Rattle.sgt_names.specs.declared.outcome.Outcome.{Outcome}
use Rattle.sgt_names.specs.declared.outcome.Outcome.TheVariants.{Yes, No, Unreadable}
use Rattle.sgt_certify.specs.Answer.{IsAnswer}
use Rattle.sgt_explain_logs.specs.Explained.{AreLogs}
use Rattle.sgt_draw.specs.Drawn.{IsDrawn}
use Rattle.sgt_draw.specs.declared.task.Wanted.{Wanted}
use Rattle.sgt_history_picture.specs.Drawn.{IsRefusalPicture}
use Rattle.sgt_history_picture.specs.Told.{IsCycleTold, Step}

-- the answer tells no cycle
abbrev pub TellsNoCycle : List ℕ → Type 0
TellsNoCycle answer = (name : List ℕ) (steps : List Step) → IsCycleTold answer name steps → ⊥

-- the cycle that a refusal tells, drawn, or the refusal itself where it tells none
abbrev pub IsRefusalShown : Bool → (refusal text : List ℕ) → Type 0
IsRefusalShown is_dot refusal text = IsRefusalPicture is_dot refusal text ⊎ (TellsNoCycle refusal × (text ≡ refusal))

-- what is written of an answer of `certify`: of a yes, which is a bundle, what `draw` answers that bundle
abbrev pub IsShown : Wanted → Outcome → (answer text : List ℕ) → Type 0
IsShown wanted Yes answer text = IsDrawn wanted (Some answer) Yes text
IsShown wanted No answer text = IsRefusalShown wanted.is_dot answer text
IsShown wanted Unreadable answer text = ⊥

-- what is written of logs: the outcome is that of the answer of `certify`
abbrev pub IsLogsDrawing : Wanted → Option (List ℕ) → Outcome → List ℕ → Type 0
IsLogsDrawing wanted told outcome text = (answer : List ℕ) × IfSome told (λ bytes. IsAnswer bytes outcome answer)
    × IsShown wanted outcome answer text

-- of logs without a certificate that, and of all else what `draw` answers
abbrev pub IsDrawing : Wanted → Option (List ℕ) → Outcome → List ℕ → Type 0
IsDrawing wanted told outcome text = (IfSome told AreLogs × IsLogsDrawing wanted told outcome text)
    ⊎ (IfSome told (λ bytes. AreLogs bytes → ⊥) × IsDrawn wanted told outcome text)

-- that text was written
abbrev pub WroteDrawing : Wanted → (told : Option (List ℕ)) → Outcome → (old new : Option (List ℕ)) → Type 0
WroteDrawing wanted told outcome old new = (text : List ℕ) × IsDrawing wanted told outcome text × Appends old new text

-- nothing was written, or a front of such a text, and less than the whole
abbrev pub WroteDrawingFront : Wanted → (told old new : Option (List ℕ)) → Type 0
WroteDrawingFront wanted told old new = AppendsOrForgets old new []
    ⊎ ((outcome : Outcome) × (text : List ℕ) × IsDrawing wanted told outcome text × WritesFront old new text)
