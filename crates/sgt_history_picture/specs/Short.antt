-- How a long name is drawn: with its middle left out.
use Rattle.std.specs.Prelude.{◌-◌, ◌+◌, ◌&&◌, ltb, leb, ℕ, zero, suc, Bool, List, ◌++◌, codes, drop, get_or, if◌then◌else◌, length, take}
use Rattle.sgt_markup.specs.Escaped.{escaped}

-- in UTF-8 a byte that goes on with a character
abbrev pub goes_on : ℕ → Bool
goes_on b = leb 128 b && ltb b 192

-- where the character begins that the byte at this place is of
abbrev pub start_of : List ℕ → ℕ → ℕ
start_of text zero = zero
start_of text (suc at) = if goes_on (get_or text (suc at) 0) then start_of text at else suc at

-- a name of no more than so many bytes is drawn as it is. Of a longer one so many of the front and of the back are
-- drawn, in whole characters, and an ellipsis between them
abbrev pub shown : (front back : ℕ) → List ℕ → List ℕ
shown front back name =
    if leb (length name) (front + back) then escaped name
    else escaped (take (start_of name front) name) ++ (codes "&#8230;" ++ escaped (drop (start_of name (length name - back)) name))
