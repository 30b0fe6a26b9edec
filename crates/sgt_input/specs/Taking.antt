-- One more line of an input.
use Rattle.std.specs.Prelude.{◌≡◌, ◌≤◌, ℕ, Bool, true, false, List, [], ◌∷◌, ◌++◌, length, take}
use Rattle.std.specs.Prelude.{Option, Some, None}
use Rattle.sgt_names.specs.Limits.{max_line}
use Rattle.sgt_notation.specs.Spelling.{HasNoLf}

-- behind these lines the line is taken, where an input may go on with it, or may not stand there
abbrev pub TakesLine : (begins took : List (List ℕ) → Type 0) → List (List ℕ) → List ℕ → Bool
    → Type 0
TakesLine begins took lines line true = begins (lines ++ line ∷ []) × took (lines ++ line ∷ [])
TakesLine begins took lines line false = begins (lines ++ line ∷ []) → ⊥

-- the line at the front of the bytes, which has its LF there, is taken as one that an input may go
-- on with, and so many bytes both have; or none is taken
abbrev pub TakesFront : (begins took : List (List ℕ) → Type 0) → List (List ℕ) → List ℕ → Option ℕ
    → Type 0
TakesFront begins took lines held None = took lines
TakesFront begins took lines held (Some n) = (line : List ℕ) × (n ≤ length held)
    × (take n held ≡ line ++ 10 ∷ []) × HasNoLf line × (length line ≤ max_line)
    × begins (lines ++ line ∷ []) × took (lines ++ line ∷ [])

-- ---- of values that are kept of the lines: which of them an input may begin with, and what lines
-- they have

-- these are the lines of what is kept
abbrev pub HasLines : {A : Type 0} → (A → Type 0) → (A → List (List ℕ)) → A → List (List ℕ) → Type 0
HasLines {A} Is lines_of kept lines = Is kept × (lines ≡ lines_of kept)

-- the lines of some such value
abbrev pub BeginsSo : {A : Type 0} → (A → Type 0) → (A → List (List ℕ)) → List (List ℕ) → Type 0
BeginsSo {A} Is lines_of lines = (kept : A) × Is kept × (lines ≡ lines_of kept)

-- with the line the old value becomes the new one, or no input goes on with it
abbrev pub Continues : {A : Type 0} → (A → Type 0) → (A → List (List ℕ)) → A → List ℕ → A → Bool
    → Type 0
Continues {A} Is lines_of old line new true = Is old
    → Is new × (lines_of new ≡ lines_of old ++ line ∷ [])
Continues {A} Is lines_of old line new false = Is old
    → BeginsSo Is lines_of (lines_of old ++ line ∷ []) → ⊥
