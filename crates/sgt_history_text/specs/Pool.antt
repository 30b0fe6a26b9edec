-- Texts that are kept one behind another.
use Rattle.std.specs.Prelude.{◌≡◌, ℕ, zero, suc, ◌-◌, ◌≤◌, List, [], ◌∷◌, take, drop, slice_index}

-- the texts that end there, the first of which begins at a place
abbrev pub texts_from : ℕ → List ℕ → List ℕ → List (List ℕ)
texts_from begin [] bytes = []
texts_from begin (end ∷ ends) bytes = take (end - begin) (drop begin bytes) ∷ texts_from end ends bytes

-- the ends rise from one place to another
abbrev pub RiseTo : (last begin : ℕ) → List ℕ → Type 0
RiseTo last begin [] = begin ≡ last
RiseTo last begin (end ∷ ends) = (begin ≤ end) × RiseTo last end ends

-- where the text with this number begins
abbrev pub begin_of : List ℕ → ℕ → ℕ
begin_of ends zero = 0
begin_of ends (suc number) = slice_index ends number
