-- The run of an input, as far as its lines were taken.
use Rattle.std.specs.Prelude.{◌≡◌, ◌≢◌, ◌≤◌, ℕ, Bool, true, false, List, [], ◌∷◌, All, length, map, Option, Some, None}
use Rattle.sgt_names.specs.Limits.{max_sites}
use Rattle.sgt_notation.specs.Events.{IsEventLine, IsSiteLine, event_text}
use Rattle.sgt_notation.specs.Reading.{SpellsNone}
use Rattle.sgt_notation.specs.declared.event.EventLine.{EventLine}
use Rattle.sgt_notation.specs.declared.event.SiteLine.{SiteLine}
use Rattle.sgt_core_model.specs.Core.{fresh}
use Rattle.sgt_core_machine.specs.Machine.{Parts, StandsFor}
use Rattle.sgt_core.specs.declared.input.Input.{Input}
use Rattle.sgt_core.specs.private.Running.{WritesReplies}
use Rattle.sgt_core.specs.private.Taking.{HaveLines, Takes}

-- the sites of the input are kept until there is an event, and from then on its events are answered
abbrev pub IsPlayed : Input → List SiteLine → Option Parts → List ℕ → Type 0
IsPlayed input sites None text = (input.sites ≡ sites) × (input.events ≡ []) × (text ≡ [])
IsPlayed input sites (Some core) text = (input.sites ≢ []) × (input.events ≢ [])
    × (m : Parts) × StandsFor m (fresh (map (λ l. l.items) input.sites))
    × WritesReplies m input.events core [] text

-- these are the lines of an input that was played so
abbrev pub HasPlayed : List SiteLine → Option Parts → List ℕ → List (List ℕ) → Type 0
HasPlayed sites core text lines = (input : Input) × HaveLines input lines
    × IsPlayed input sites core text

-- the line goes on with the input, which is played so, or may not stand there
abbrev pub PlaysOn : Input → List ℕ → List SiteLine → Option Parts → List ℕ → Bool → Type 0
PlaysOn old line sites core text true = (new : Input) × Takes old line new true
    × IsPlayed new sites core text
PlaysOn old line sites core text false = Takes old line old false

-- the line spells an event, whose reply is written, or none
abbrev pub AnswersEvent : Parts → List ℕ → Parts → (text written : List ℕ) → Bool → Type 0
AnswersEvent old line new text written true =
    (e : EventLine) × IsEventLine e × (line ≡ event_text e)
    × WritesReplies old (e ∷ []) new text written
AnswersEvent old line new text written false = SpellsNone IsEventLine event_text line

-- a core can be opened over these sites
pub record IsOpening (sites : List SiteLine) : Type 0 where
  pub some : 1 ≤ length sites
  pub few : length sites ≤ max_sites
  pub each : All IsSiteLine sites

-- the core that a run ends with: the one that is there, or else a new one over the sites
abbrev pub IsCoreAtEnd : Option Parts → List SiteLine → Parts → Type 0
IsCoreAtEnd None sites core = StandsFor core (fresh (map (λ l. l.items) sites))
IsCoreAtEnd (Some old) sites core = core ≡ old
