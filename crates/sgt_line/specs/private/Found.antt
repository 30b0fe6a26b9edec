-- Where a line begins so.
use Rattle.std.specs.Prelude.{◌≡◌, ◌≤◌, ℕ, List, ◌++◌, MatchOption, Option, length}
use Rattle.sgt_line.specs.Written.{AreLines}

-- at this place a line begins with these bytes
abbrev pub BeginsAt : (text head : List ℕ) → ℕ → Type 0
BeginsAt text head place = (front : List ℕ) × (behind : List ℕ) × AreLines front
    × (length front ≡ place) × (text ≡ front ++ (head ++ behind))

-- this is the first such place
abbrev pub FindsLine : (text head : List ℕ) → Option ℕ → Type 0
FindsLine text head found = MatchOption found ((place : ℕ) → BeginsAt text head place → ⊥)
    (λ first. BeginsAt text head first × ((place : ℕ) → BeginsAt text head place → first ≤ place))
