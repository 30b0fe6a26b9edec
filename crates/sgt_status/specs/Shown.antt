-- How a name is told.
use Rattle.std.specs.Prelude.{ℕ, ◌/◌, ◌%◌, Bool, ◌||◌, ◌&&◌, if◌then◌else◌, nat_lt, nat_le, IsTrue, List, [], ◌∷◌, ◌++◌, codes, encode_utf8}
use Rattle.std.specs.Char.{digit_char}

-- a control character: U+0000 to U+001F, and U+007F to U+009F
abbrev pub is_control : ℕ → Bool
is_control letter = nat_lt letter 0x20 || (nat_le 0x7f letter && nat_le letter 0x9f)

abbrev pub IsControl : ℕ → Type 0
IsControl letter = IsTrue (is_control letter)

-- a control character as `\x` and two hexadecimal digits, each other one as it is
abbrev pub shown_letter : ℕ → List ℕ
shown_letter letter =
    if is_control letter
    then codes "\\x" ++ (encode_utf8 (digit_char (letter / 16)) ++ encode_utf8 (digit_char (letter % 16)))
    else encode_utf8 letter

-- a name's characters, one behind the other
abbrev pub shown : List ℕ → List ℕ
shown [] = []
shown (letter ∷ letters) = shown_letter letter ++ shown letters
