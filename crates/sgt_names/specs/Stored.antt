-- How the name of an item is tested and kept: words of private clauses alone.
use Rattle.std.specs.Prelude.{◌≡◌, ◌≤◌, ◌==◌, ℕ, zero, suc, ◌-◌, List, [], ◌∷◌, ◌++◌, length, replicate, Bool, true, false, IsTrue, if◌then◌else◌}
use Rattle.std.specs.Int.{w64, trailing_zeros}
use Rattle.std.specs.List.{list_all, take_while}
use Rattle.std.proofs.Common.{sym}
use Rattle.sgt_names.specs.Name.{Name, IsName, is_small_letter, is_name_byte}
use Rattle.sgt_names.specs.declared.item.Item.TheInside.{Inside}

-- a small letter comes first
abbrev pub BeginsName : Name → Type 0
BeginsName [] = ⊥
BeginsName (c ∷ cs) = IsTrue (is_small_letter c)

-- at most sixteen bytes, each of which may stand in a name
abbrev pub AreNameBytes : Name → Type 0
AreNameBytes n = (length n ≤ 16) × IsTrue (list_all is_name_byte n)

-- whether it is no zero
abbrev pub is_positive : ℕ → Bool
is_positive zero = false
is_positive (suc c) = true

-- the place of the lowest bit that is set, or 16
abbrev pub first_set : ℕ → ℕ
first_set mask = if mask == 0 then 16 else trailing_zeros w64 mask

-- the bytes in front of the zeros
abbrev pub name_of : Inside → Name
name_of a = take_while is_positive a.bytes

-- a name in sixteen bytes, with zeros behind it
abbrev pub padded_name : Name → List ℕ
padded_name n = n ++ replicate (16 - length n) 0

-- the bytes are a name, and zeros behind it
pub record IsStored (a : Inside) : Type 0 where
  pub name : IsName (name_of a)
  pub zeros : a.bytes ≡ padded_name (name_of a)

-- the sixteen bytes of a name
abbrev pub stored_name : Name → Inside
stored_name n = record { bytes = padded_name n }

-- a name gives its bytes back
pub stored_name-name_of : (a : Inside) → IsStored a → stored_name (name_of a) ≡ a
stored_name-name_of a h = λ i. record { bytes = sym h.zeros i }
