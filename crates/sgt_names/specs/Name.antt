-- Names of items, as lists of bytes.
use Rattle.std.specs.Prelude.{ℕ, ◌<◌, ◌≤◌, take, List, [], ◌∷◌, length, Bool, ◌&&◌, ◌||◌, ◌==◌, nat_le, IsTrue}
use Rattle.std.specs.List.{list_all}

-- the name of an item, by its bytes
abbrev pub Name : Type 0
Name = List ℕ

-- a small letter
abbrev pub is_small_letter : ℕ → Bool
is_small_letter c = nat_le 97 c && nat_le c 122

-- a small letter, a digit or an underscore
abbrev pub is_name_byte : ℕ → Bool
is_name_byte c = is_small_letter c || (nat_le 48 c && nat_le c 57) || (c == 95)

-- a name: a small letter, then up to fifteen small letters, digits and underscores
abbrev pub IsName : Name → Type 0
IsName [] = ⊥
IsName (c ∷ cs) = IsTrue (is_small_letter c) × IsTrue (list_all is_name_byte cs) × (length cs < 16)

-- so many of the first bytes are a name
abbrev pub SpellsFront : List ℕ → ℕ → Type 0
SpellsFront bytes len = (len ≤ length bytes) × IsName (take len bytes)
