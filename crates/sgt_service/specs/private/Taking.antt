-- One more line of an input.
use Rattle.std.specs.Prelude.{◌≡◌, ◌≤◌, ◌⊎◌, ℕ, Bool, true, false, List, [], ◌∷◌, ◌++◌, length}
use Rattle.sgt_notation.specs.Reading.{SpellsNone}
use Rattle.sgt_notation.specs.Scripts.{script_text}
use Rattle.sgt_notation.specs.declared.event.SiteLine.{SiteLine}
use Rattle.sgt_notation.specs.declared.script.Script.{Script}
use Rattle.sgt_input.specs.Taking.{Continues, HasLines}
use Rattle.sgt_service.specs.declared.input.Input.{Input}
use Rattle.sgt_names.specs.Limits.{max_scripts}
use Rattle.sgt_service.specs.Input.{IsBegun, IsScriptOver, input_lines}

-- an input that begins so has these lines
abbrev pub HaveLines : Input → List (List ℕ) → Type 0
HaveLines input lines = HasLines IsBegun input_lines input lines

-- the line spells a script over the sites, which is kept, or none; or there are as many as there
-- may be
abbrev pub TakesScript : List SiteLine → List Script → List ℕ → List Script → Bool → Type 0
TakesScript sites old line new true =
    (s : Script) × IsScriptOver sites s × (line ≡ script_text s) × (new ≡ old ++ s ∷ [])
    × (length new ≤ max_scripts)
TakesScript sites old line new false =
    (SpellsNone (IsScriptOver sites) script_text line ⊎ (max_scripts ≤ length old)) × (new ≡ old)

-- the line goes on with the input, or may not stand there
abbrev pub Takes : Input → List ℕ → Input → Bool → Type 0
Takes old line new goes = Continues IsBegun input_lines old line new goes
