-- What the bytes of a run's input spell: the sites that it starts from, and then its scripts; or
-- else the first line that can't be read.
use Rattle.std.specs.Prelude.{◌≡◌, ◌≢◌, ◌≤◌, ℕ, List, [], ◌++◌, length, map, All, Any, Some, slice_get}
use Rattle.std.specs.List.{range_with_len}
use Rattle.sgt_names.specs.Name.{Name}
use Rattle.sgt_names.specs.Limits.{max_scripts, max_sites}
use Rattle.sgt_notation.specs.Events.{IsSiteLine, site_text}
use Rattle.sgt_notation.specs.Scripts.{IsScript, script_text}
use Rattle.sgt_notation.specs.Spelling.{text_of_lines}
use Rattle.sgt_notation.specs.declared.event.SiteLine.{SiteLine}
use Rattle.sgt_notation.specs.declared.script.Op.{Op}
use Rattle.sgt_notation.specs.declared.script.Op.TheVariants.{Read, Put, Add, Sum}
use Rattle.sgt_notation.specs.declared.script.Script.{Script}
use Rattle.sgt_notation.specs.declared.fault.NotationFault.{NotationFault}
use Rattle.sgt_notation.specs.declared.fault.NotationFault.TheVariants.{Memory}
use Rattle.sgt_input.specs.Unreadable.{IsFirstUnreadable}
use Rattle.sgt_service.specs.declared.input.Input.{Input}
use Rattle.sgt_service.specs.declared.input.Reading.{Reading}
use Rattle.sgt_service.specs.declared.input.Reading.TheVariants.{Readable, Unreadable}

-- the site is there, and has the item
abbrev pub HasPlace : List SiteLine → ℕ → Name → Type 0
HasPlace sites s x = (l : SiteLine) × (slice_get sites s ≡ Some l) × Any (λ h. h.item ≡ x) l.items

-- the operation is of an item that is there. (The source of a sum is the item of an earlier
-- operation.)
abbrev pub IsPlaced : List SiteLine → Op → Type 0
IsPlaced sites (Read s x) = HasPlace sites s x
IsPlaced sites (Put s x v) = HasPlace sites s x
IsPlaced sites (Add s x v) = HasPlace sites s x
IsPlaced sites (Sum s x t y v) = HasPlace sites s x

-- a script over these sites
abbrev pub IsScriptOver : List SiteLine → Script → Type 0
IsScriptOver sites s = IsScript s × All (IsPlaced sites) s.operations

-- what is read of an input, as far as it goes: sites numbered from 0, and scripts over them
pub record IsBegun (input : Input) : Type 0 where
  pub few : length input.sites ≤ max_sites
  pub numbered : map (λ l. l.site) input.sites ≡ range_with_len 0 (length input.sites)
  pub each : All IsSiteLine input.sites
  pub scripts : All (IsScriptOver input.sites) input.scripts
  pub count : length input.scripts ≤ max_scripts

-- a whole input has a site
abbrev pub IsInput : Input → Type 0
IsInput input = IsBegun input × (input.sites ≢ [])

-- the lines of an input: one for each site, and then one for each script
abbrev pub input_lines : Input → List (List ℕ)
input_lines input = map site_text input.sites ++ map script_text input.scripts

-- the bytes spell the input
abbrev pub Spells : List ℕ → Input → Type 0
Spells bytes input = IsInput input × (bytes ≡ text_of_lines (input_lines input))

-- ---- the first line that can't be read

-- an input may begin with these lines
abbrev pub Begins : List (List ℕ) → Type 0
Begins lines = (input : Input) × IsBegun input × (lines ≡ input_lines input)

-- the first line that can't be read has this number, from 1, and this fault
abbrev pub FirstUnreadable : List ℕ → ℕ → NotationFault → Type 0
FirstUnreadable bytes n fault = IsFirstUnreadable Begins bytes n fault

-- ---- a reading

-- the bytes were read as what they spell, or as their first line that can't be read
abbrev pub IsRead : List ℕ → Reading → Type 0
IsRead bytes (Readable input) = Spells bytes input
IsRead bytes (Unreadable line fault) = FirstUnreadable bytes line fault

-- what is handed out is an input, or a fault other than want of memory, also where the reader tells
-- nothing
abbrev pub IsUsable : Reading → Type 0
IsUsable (Readable input) = IsInput input
IsUsable (Unreadable line fault) = fault ≢ Memory
