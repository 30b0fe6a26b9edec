-- Operations cut into transactions, by where each of these ends.
use Rattle.std.specs.Prelude.{ℕ, ◌-◌, ◌≤◌, List, [], ◌∷◌, take, drop, All}
use Rattle.std.specs.List.Sorted.{IsNonDecreasingBy}
use Rattle.sgt_history.specs.declared.history.Line.{Line}
use Rattle.sgt_history.specs.declared.history.Operation.{Operation}
use Rattle.sgt_history.specs.Transaction.{Transaction}

-- the transactions of the lines, whose first begins there
abbrev pub cut : ℕ → List Line → List (Operation ℕ ℕ) → List (Transaction ℕ ℕ)
cut from [] operations = []
cut from (line ∷ lines) operations =
    record { commits = line.commits; operations = take (line.end - from) (drop from operations) }
    ∷ cut line.end lines operations

-- where the last of the lines ends
abbrev pub end_of : ℕ → List Line → ℕ
end_of from [] = from
end_of from (line ∷ lines) = end_of line.end lines

-- each line ends where the one before it ends or later
abbrev pub EndsRise : List Line → Type 0
EndsRise lines = IsNonDecreasingBy (λ (l : Line). l.end) lines

-- and each within so many operations
abbrev pub EndWithin : ℕ → List Line → Type 0
EndWithin count lines = All (λ (l : Line). l.end ≤ count) lines
