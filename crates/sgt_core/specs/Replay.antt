-- What a replay writes: the replies to the events of its input, and how the run ends.
use Rattle.std.specs.Prelude.{◌≡◌, ◌≢◌, ◌⊎◌, ◌↔◌, ℕ, List, [], ◌∷◌, ◌++◌, map, codes, Option, IfSome}
use Rattle.std.specs.Io.KnownBytes.{Appends}
use Rattle.sgt_names.specs.Device.{AppendsOrForgets, WritesFront}
use Rattle.sgt_names.specs.declared.outcome.Outcome.{Outcome}
use Rattle.sgt_names.specs.declared.outcome.Outcome.TheVariants as outcome
use Rattle.sgt_notation.specs.Spelling.{text_of_lines}
use Rattle.sgt_notation.specs.declared.event.EventLine.{EventLine}
use Rattle.sgt_notation.specs.declared.event.EventLine.TheVariants.{One, ToDecide}
use Rattle.sgt_notation.specs.declared.fault.NotationFault.{NotationFault}
use Rattle.sgt_notation.specs.declared.fault.NotationFault.TheVariants as fault
use Rattle.sgt_bundle.specs.Text.{text_of}
use Rattle.sgt_input.specs.Unreadable.{unreadable_text}
use Rattle.sgt_bundle.specs.Valid.{IsValid}
use Rattle.sgt_core_model.specs.Core.{CoreState, fresh, bundle_of}
use Rattle.sgt_core_model.specs.Runs.{IsMemory}
use Rattle.sgt_core_model.specs.Step.{MayDecide, MayStep}
use Rattle.sgt_core_model.specs.declared.reply.Reply.{Reply}
use Rattle.sgt_core.specs.declared.input.Input.{Input}
use Rattle.sgt_core.specs.Input.{FirstUnreadable, Spells}
use Rattle.sgt_core.specs.Reply.{reply_lines}

-- ---- a run

-- a line may be answered so, and leave new
abbrev pub MayAnswer : CoreState → EventLine → Reply → CoreState → Type 0
MayAnswer old (One event) reply new = MayStep old event reply new
MayAnswer old (ToDecide tx) reply new = MayDecide old tx reply new

-- the lines may be given these replies, one after another, and no one of them is want of memory
abbrev pub Replies : CoreState → List EventLine → List Reply → CoreState → Type 0
Replies old [] [] new = new ≡ old
Replies old (line ∷ lines) (reply ∷ replies) new =
    (mid : CoreState) × MayAnswer old line reply mid × (IsMemory reply → ⊥)
    × Replies mid lines replies new
Replies old _ _ new = ⊥

-- how a run ends that leaves this state: where no transaction is active, with the bundle, which is
-- valid; else with a refusal
abbrev pub EndsWith : CoreState → Outcome → List ℕ → Type 0
EndsWith c outcome.Yes text = (c.certifier.active ≡ []) × IsValid (bundle_of c) × (text ≡ codes "---\n" ++ text_of (bundle_of c))
EndsWith c outcome.No text = (c.certifier.active ≢ []) × (text ≡ codes "! E8\n")
EndsWith c outcome.Unreadable text = ⊥

-- the text of a run over the events of the input, from its sites with nothing logged
pub record IsRunText (input : Input) (outcome : Outcome) (text : List ℕ) : Type 0 where
  pub replies : List Reply
  pub last : CoreState
  pub ending : List ℕ
  pub run : Replies (fresh (map (λ l. l.items) input.sites)) input.events replies last
  pub ends : EndsWith last outcome ending
  pub whole : text ≡ text_of_lines (reply_lines input.events replies) ++ ending

-- ---- what an input is answered by

-- the text of a run over what was read; or, where nothing was, the first line that can't be read
abbrev pub IsAnswer : Option (List ℕ) → Outcome → List ℕ → Type 0
IsAnswer told outcome.Yes text = (input : Input) × IfSome told (λ bytes. Spells bytes input)
    × IsRunText input outcome.Yes text
IsAnswer told outcome.No text = (input : Input) × IfSome told (λ bytes. Spells bytes input)
    × IsRunText input outcome.No text
IsAnswer told outcome.Unreadable text = (line : ℕ) × (f : NotationFault) × (f ≢ fault.Memory)
    × IfSome told (λ bytes. FirstUnreadable bytes line f) × (text ≡ unreadable_text line f)

-- it is called unreadable exactly where the bytes spell no input
abbrev pub TellsUnreadable : List ℕ → Outcome → Type 0
TellsUnreadable bytes o = (o ≡ outcome.Unreadable) ↔ ((input : Input) → Spells bytes input → ⊥)

-- that text was written
abbrev pub WroteAnswer : (told : Option (List ℕ)) → Outcome → (old new : Option (List ℕ)) → Type 0
WroteAnswer told outcome old new = (text : List ℕ) × IsAnswer told outcome text
    × Appends old new text

-- nothing was written, or a front of the text that the input is answered by, and less than the
-- whole text
abbrev pub WroteAnswerFront : (told old new : Option (List ℕ)) → Type 0
WroteAnswerFront told old new = AppendsOrForgets old new []
    ⊎ ((outcome : Outcome) × (text : List ℕ) × IsAnswer told outcome text
    × WritesFront old new text)
