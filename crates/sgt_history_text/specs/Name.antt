-- Ids, items and values are values of JSON: what each may be, and how it is written.
use Rattle.std.specs.Prelude.{◌≡◌, ◌⊎◌, ℕ, ◌<◌, ◌≤◌, ◌^◌, List, ◌∷◌, length, decimal}
use Rattle.json.specs.Json.{Json, null, boolean, number, string, array, object}
use Rattle.json.specs.Print.{print}
use Rattle.json.specs.Tree.{json_tokens}

-- the text of a JSON value, with no space and the shortest escapes
abbrev pub compact : Json → List ℕ
compact j = print (json_tokens j)

-- the digits of a whole number from 0 to 2^64-1
abbrev pub IsWhole : List ℕ → Type 0
IsWhole digits = (n : ℕ) × (n < 2 ^ 64) × (digits ≡ decimal n)

-- a minus (byte 45) and the digits of a whole number from 1 to 2^63
abbrev pub IsNegative : List ℕ → Type 0
IsNegative digits = (n : ℕ) × (0 < n) × (n ≤ 2 ^ 63) × (digits ≡ 45 ∷ decimal n)

-- a string of so many bytes, or a whole number
abbrev pub IsKey : (least most : ℕ) → Json → Type 0
IsKey least most null = ⊥
IsKey least most (boolean b) = ⊥
IsKey least most (number digits) = IsWhole digits
IsKey least most (string s) = (least ≤ length s) × (length s ≤ most)
IsKey least most (array js) = ⊥
IsKey least most (object ms) = ⊥

-- what may name a transaction
abbrev pub IsId : Json → Type 0
IsId j = IsKey 1 256 j

-- an item
abbrev pub IsItem : Json → Type 0
IsItem j = IsKey 0 1024 j

-- a value of an item
abbrev pub IsValue : Json → Type 0
IsValue null = Unit {0}
IsValue (boolean b) = Unit {0}
IsValue (number digits) = IsWhole digits ⊎ IsNegative digits
IsValue (string s) = Unit {0}
IsValue (array js) = ⊥
IsValue (object ms) = ⊥
