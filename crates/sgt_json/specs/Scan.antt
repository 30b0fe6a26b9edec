-- How far a number, a JSON value or a text goes.
use Rattle.std.specs.Prelude.{◌==◌, ◌&&◌, eqb, leb, ℕ, suc, Bool, true, false, List, [], ◌∷◌, Option, Some, None, if◌then◌else◌, length}
use Rattle.std.specs.Option.{option_map}
use Rattle.std.specs.List.{starts_with}

-- the text begins so
abbrev pub begins : (text front : List ℕ) → Bool
begins text front = starts_with eqb text front

abbrev pub is_digit : ℕ → Bool
is_digit b = leb 48 b && leb b 57

-- how many digits stand at the front
abbrev pub digits : List ℕ → ℕ
digits [] = 0
digits (b ∷ text) = if is_digit b then suc (digits text) else 0

-- how many blanks stand at the front
abbrev pub blanks : List ℕ → ℕ
blanks [] = 0
blanks (b ∷ text) = if b == 32 then suc (blanks text) else 0

-- how far a string goes of which this is what stands behind its first quote: up to the quote that no backslash escapes
abbrev pub in_string : (is_escaped : Bool) → List ℕ → ℕ
in_string is_escaped [] = 0
in_string true (b ∷ text) = suc (in_string false text)
in_string false (b ∷ text) = if b == 34 then 1 else suc (in_string (b == 92) text)

-- how far a string goes that stands at the front, or how many digits stand there
abbrev pub json_end : List ℕ → ℕ
json_end [] = 0
json_end (b ∷ text) = if b == 34 then suc (in_string false text) else digits (b ∷ text)

-- where the mark ends that stands in the text, the first one
abbrev pub end_of : (mark text : List ℕ) → Option ℕ
end_of mark [] = None
end_of mark (b ∷ text) =
    if begins (b ∷ text) mark then Some (length mark)
    else option_map (λ (n : ℕ). suc n) (end_of mark text)
