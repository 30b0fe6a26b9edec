-- The names of bundles.
use Rattle.std.specs.Prelude.{◌≡◌, ◌≤◌, ◌⊎◌, ℕ, List, [], ◌∷◌, ◌++◌, codes, length}
use Rattle.std.specs.Str.Parse.{IsNumeral, digits_value}

-- the name of the bundle of this number: eight digits and `.sgt`
pub record IsBundleName (name : List ℕ) (number : ℕ) : Type 0 where
  pub digits : List ℕ
  pub numeral : IsNumeral 10 digits
  pub eight : length digits ≡ 8
  pub is : name ≡ digits ++ codes ".sgt"
  pub value : number ≡ digits_value 10 digits

-- the name is one of these
abbrev pub IsAmong : List (List ℕ) → List ℕ → Type 0
IsAmong [] name = ⊥
IsAmong (first ∷ behind) name = (first ≡ name) ⊎ IsAmong behind name

-- the greatest number of a bundle's name among these names; 0 where there is none
pub record IsGreatest (names : List (List ℕ)) (greatest : ℕ) : Type 0 where
  pub above : (name : List ℕ) (number : ℕ) → IsAmong names name → IsBundleName name number → number ≤ greatest
  pub among : (greatest ≡ 0) ⊎ ((name : List ℕ) × IsAmong names name × IsBundleName name greatest)
