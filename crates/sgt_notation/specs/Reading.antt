-- What it is to read a spelling.
use Rattle.std.specs.Prelude.{◌≡◌, ◌≢◌, ◌<◌, ◌≤◌, ℕ, List, length, Option, Some, None, Result, Ok, Err}
use Rattle.sgt_notation.specs.declared.fault.NotationFault.{NotationFault}
use Rattle.sgt_notation.specs.declared.fault.NotationFault.TheVariants.{NotALine, TooLong, Memory}
use Rattle.sgt_names.specs.Limits.{max_line}

-- the bytes are the text of no value
abbrev pub SpellsNone : {A : Type 0} → (A → Type 0) → (A → List ℕ) → List ℕ → Type 0
SpellsNone {A} Is text bytes = (a : A) → Is a → bytes ≢ text a

-- Read exactly where spelled: a value is found where the bytes are its text, and none where they
-- are the text of none.
abbrev pub Finds : {A : Type 0} → (A → Type 0) → (A → List ℕ) → List ℕ → Option A → Type 0
Finds Is text bytes (Some a) = Is a × (bytes ≡ text a)
Finds Is text bytes None = SpellsNone Is text bytes

-- the refusal of a line that spells nothing: L2 where it is too long, else L1
abbrev pub Refuses : List ℕ → NotationFault → Type 0
Refuses line NotALine = length line ≤ max_line
Refuses line TooLong = max_line < length line
Refuses line Memory = ⊥

-- the same as Finds, of a line, with the refusal
abbrev pub Reads : {A : Type 0} → (A → Type 0) → (A → List ℕ) → List ℕ → Result A NotationFault
    → Type 0
Reads Is text line (Ok a) = Is a × (line ≡ text a)
Reads Is text line (Err e) = Refuses line e × SpellsNone Is text line
