-- One more line of an input.
use Rattle.std.specs.Prelude.{◌≡◌, ℕ, Bool, true, false, List, [], ◌∷◌, ◌++◌}
use Rattle.sgt_notation.specs.Events.{IsEventLine, event_text}
use Rattle.sgt_notation.specs.Reading.{SpellsNone}
use Rattle.sgt_notation.specs.declared.event.EventLine.{EventLine}
use Rattle.sgt_input.specs.Taking.{Continues, HasLines}
use Rattle.sgt_core.specs.declared.input.Input.{Input}
use Rattle.sgt_core.specs.Input.{IsBegun, input_lines}

-- an input that begins so has these lines
abbrev pub HaveLines : Input → List (List ℕ) → Type 0
HaveLines input lines = HasLines IsBegun input_lines input lines

-- the line spells an event, which is kept, or none
abbrev pub TakesEvent : List EventLine → List ℕ → List EventLine → Bool → Type 0
TakesEvent old line new true = (e : EventLine) × IsEventLine e × (line ≡ event_text e)
    × (new ≡ old ++ e ∷ [])
TakesEvent old line new false = SpellsNone IsEventLine event_text line × (new ≡ old)

-- the line goes on with the input, or may not stand there
abbrev pub Takes : Input → List ℕ → Input → Bool → Type 0
Takes old line new goes = Continues IsBegun input_lines old line new goes
