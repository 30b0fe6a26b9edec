-- Words on a line, in one line of their own.
use Rattle.std.specs.Prelude.{◌≡◌, ◌≤◌, ◌∷◌, ◌++◌, [], ℕ, List, All, codes, decimal}

-- no byte is a control of ASCII below 32
abbrev pub IsOneLine : List ℕ → Type 0
IsOneLine words = All (λ b. 32 ≤ b) words

-- words on the line with this number
pub record IsTold (number : ℕ) (text : List ℕ) : Type 0 where
  pub words : List ℕ
  pub one_line : IsOneLine words
  pub text_is : text ≡ codes "sgt: line " ++ decimal number ++ codes ": " ++ words ++ 10 ∷ []
