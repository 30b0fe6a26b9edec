-- What is said of a column of a line.
use Rattle.std.specs.Prelude.{◌≡◌, ◌≢◌, ◌⊎◌, ℕ, ◌+◌, ◌-◌, ◌≤◌, List, [], ◌∷◌, ◌++◌, length, take, drop, codes, decimal, Option, Some, None, slice_get}
use Rattle.sgt_explain_lines.specs.Told.{IsShown}

-- a text as it is shown between these words
abbrev pub ShowsBetween : (before text behind told : List ℕ) → Type 0
ShowsBetween before text behind told = (shown : List ℕ) × IsShown text shown × (told ≡ before ++ (shown ++ behind))

-- what stands at a place of the line: nothing, a space, or another byte
abbrev pub IsToldByte : Option ℕ → List ℕ → Type 0
IsToldByte None told = told ≡ codes "the line ends"
IsToldByte (Some b) told = ((b ≡ 32) × (told ≡ codes "a space stands"))
    ⊎ ((b ≢ 32) × ShowsBetween (codes "`") (b ∷ []) (codes "` stands") told)

abbrev pub IsStanding : List ℕ → ℕ → List ℕ → Type 0
IsStanding line at told = IsToldByte (slice_get line at) told

-- the bytes before the place, sixteen at most
abbrev pub bytes_before : List ℕ → ℕ → List ℕ
bytes_before line at = take (at - (at - 16)) (drop (at - 16) line)

-- they are shown, where it isn't the first place
abbrev pub IsBehind : List ℕ → ℕ → List ℕ → Type 0
IsBehind line at told = ((at ≡ 0) × (told ≡ codes ""))
    ⊎ ((at ≢ 0) × (at ≤ length line → ShowsBetween (codes " behind `") (bytes_before line at) (codes "`") told))

abbrev pub column_text : ℕ → List ℕ
column_text column = codes "column " ++ (decimal column ++ codes ": ")

-- a place is told by its column, counted from 1, with what stands there and what before it
pub record IsFoundAt (line : List ℕ) (at : ℕ) (told : List ℕ) : Type 0 where
  pub standing : List ℕ
  pub behind : List ℕ
  pub stands : IsStanding line at standing
  pub before : IsBehind line at behind
  pub text : told ≡ column_text (at + 1) ++ (standing ++ behind)
