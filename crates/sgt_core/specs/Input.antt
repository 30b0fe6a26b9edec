-- What the bytes of a replay's input spell: the sites that it starts from, and then its events; or
-- else the first line that can't be read.
use Rattle.std.specs.Prelude.{◌≡◌, ◌≢◌, ◌≤◌, ℕ, List, [], ◌++◌, length, map, All}
use Rattle.std.specs.List.{range_with_len}
use Rattle.sgt_names.specs.Limits.{max_sites}
use Rattle.sgt_notation.specs.Events.{IsEventLine, IsSiteLine, event_text, site_text}
use Rattle.sgt_notation.specs.Spelling.{text_of_lines}
use Rattle.sgt_notation.specs.declared.fault.NotationFault.{NotationFault}
use Rattle.sgt_notation.specs.declared.fault.NotationFault.TheVariants.{Memory}
use Rattle.sgt_input.specs.Unreadable.{IsFirstUnreadable}
use Rattle.sgt_core.specs.declared.input.Input.{Input}
use Rattle.sgt_core.specs.declared.input.Reading.{Reading}
use Rattle.sgt_core.specs.declared.input.Reading.TheVariants.{Readable, Unreadable}

-- what is read of an input, as far as it goes: sites numbered from 0, and behind the first of them
-- events
pub record IsBegun (input : Input) : Type 0 where
  pub few : length input.sites ≤ max_sites
  pub numbered : map (λ l. l.site) input.sites ≡ range_with_len 0 (length input.sites)
  pub each : All IsSiteLine input.sites
  pub events : All IsEventLine input.events
  pub first : input.sites ≡ [] → input.events ≡ []

-- a whole input has a site
abbrev pub IsInput : Input → Type 0
IsInput input = IsBegun input × (input.sites ≢ [])

-- the lines of an input: one for each site, and then one for each event
abbrev pub input_lines : Input → List (List ℕ)
input_lines input = map site_text input.sites ++ map event_text input.events

-- the bytes spell the input
abbrev pub Spells : List ℕ → Input → Type 0
Spells bytes input = IsInput input × (bytes ≡ text_of_lines (input_lines input))

-- ---- the first line that can't be read

-- an input may begin with these lines
abbrev pub Begins : List (List ℕ) → Type 0
Begins lines = (input : Input) × IsBegun input × (lines ≡ input_lines input)

-- the first line that can't be read has this number, from 1, and this fault
abbrev pub FirstUnreadable : List ℕ → ℕ → NotationFault → Type 0
FirstUnreadable bytes n fault = IsFirstUnreadable Begins bytes n fault

-- ---- a reading

-- the bytes were read as what they spell, or as their first line that can't be read
abbrev pub IsRead : List ℕ → Reading → Type 0
IsRead bytes (Readable input) = Spells bytes input
IsRead bytes (Unreadable line fault) = FirstUnreadable bytes line fault

-- what is handed out is an input, or a fault other than want of memory, also where the reader tells
-- nothing
abbrev pub IsUsable : Reading → Type 0
IsUsable (Readable input) = IsInput input
IsUsable (Unreadable line fault) = fault ≢ Memory
