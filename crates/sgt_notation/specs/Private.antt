-- Words of private clauses alone: parts of a line as they are read, and a look into the bytes that
-- are held.
use Rattle.std.specs.Prelude.{◌≡◌, ◌<◌, ◌≤◌, ℕ, ◌+◌, List, [], ◌∷◌, ◌++◌, length, take, drop, ⊤, Bool, true, false, Option, Some, None}
use Rattle.sgt_names.specs.Name.{Name, IsName}
use Rattle.sgt_notation.specs.Spelling.{operation, HasNoLf, IsTx, IsValue}
use Rattle.sgt_notation.specs.declared.lines.Next.{Next}
use Rattle.sgt_notation.specs.declared.lines.Next.TheVariants.{Line, Cut, TooLong, End}

-- ---- an operation

-- an operation, as a transaction, an item and a value
abbrev pub IsOperation : ℕ × Name × ℕ → Type 0
IsOperation o = IsTx o.0 × IsName o.1 × IsValue o.2

abbrev pub operation_text : ℕ × Name × ℕ → List ℕ
operation_text o = operation o.0 o.1 o.2

-- ---- a look

-- What a look into the held bytes gave, and the line that it made longer by n of them: a whole
-- line, too long a line
-- (of which it took nothing), or all of them with no LF.
abbrev pub Looks : ℕ → List ℕ → List ℕ → Option Next → ℕ → List ℕ → Type 0
Looks limit held line (Some Line) n line' = (n < length held) × HasNoLf (take n held)
    × (held ≡ take n held ++ 10 ∷ drop (n + 1) held) × (line' ≡ line ++ take n held)
    × (length line' ≤ limit)
Looks limit held line (Some TooLong) n line' = (n ≤ length held) × HasNoLf (take n held)
    × (limit < length line + n) × (line' ≡ line)
Looks limit held line (Some Cut) n line' = ⊥
Looks limit held line (Some End) n line' = ⊥
Looks limit held line None n line' = (n ≡ length held) × HasNoLf held × (line' ≡ line ++ held)
    × (length line' ≤ limit)

-- what is held after such a look: the LF is taken with its line
abbrev pub IsLeft : List ℕ → Option Next → ℕ → List ℕ → Type 0
IsLeft held (Some Line) n held' = held' ≡ drop (n + 1) held
IsLeft held (Some TooLong) n held' = held' ≡ held
IsLeft held (Some Cut) n held' = ⊤
IsLeft held (Some End) n held' = ⊤
IsLeft held None n held' = held' ≡ []

-- how many bytes are held and in the line, before such a look and after it: the LF alone goes
abbrev pub Moves : Option Next → ℕ → ℕ → Type 0
Moves (Some Line) old new = old ≡ new + 1
Moves (Some TooLong) old new = old ≡ new
Moves (Some Cut) old new = ⊤
Moves (Some End) old new = ⊤
Moves None old new = old ≡ new

-- the line and some held bytes with no LF are more than the room, and within the limit
abbrev pub Outgrows : (room limit : ℕ) → List ℕ → List ℕ → Type 0
Outgrows room limit line held = (n : ℕ) × (n ≤ length held) × HasNoLf (take n held)
    × (room < length line + n) × (length line + n ≤ limit)

-- ---- places

-- from one place to another stands this text
pub record Spans (bytes : List ℕ) (from : ℕ) (text : List ℕ) (to : ℕ) : Type 0 where
  pub within : to ≤ length bytes
  pub reads : drop from bytes ≡ text ++ drop to bytes

-- the LF of a line, where it is wanted
abbrev pub ending : Bool → List ℕ
ending true = 10 ∷ []
ending false = []
