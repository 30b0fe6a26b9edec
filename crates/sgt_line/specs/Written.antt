-- What a replay or a run wrote, by its lines.
use Rattle.std.specs.Prelude.{◌≡◌, ◌⊎◌, ◌≤◌, ℕ, List, [], ◌∷◌, ◌++◌, Bool, Option, None, codes, length}

-- no bytes, or some of which the last is an LF
abbrev pub AreLines : List ℕ → Type 0
AreLines text = (text ≡ []) ⊎ ((before : List ℕ) × (text ≡ before ++ (10 ∷ [])))

-- behind these lines the text has a line `---`, and then this bundle
abbrev pub IsCutAt : (text front bundle : List ℕ) → Type 0
IsCutAt text front bundle = AreLines front × (text ≡ front ++ (codes "---\n" ++ bundle))

-- one of the lines begins with `! E`, as the reply to an event that is refused
abbrev pub HasRefusal : List ℕ → Type 0
HasRefusal replies = (front : List ℕ) × (behind : List ℕ) × AreLines front
    × (replies ≡ front ++ (codes "! E" ++ behind))
