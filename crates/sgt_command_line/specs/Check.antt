-- The options of `check`.
use Rattle.std.specs.Prelude.{◌≡◌, ◌⊎◌, ◌↔◌, ℕ, All, Any, IsTrue, List, codes}
use Rattle.sgt_command_line.specs.declared.check.CheckWanted.{CheckWanted}

-- the word is an option of a check
abbrev pub IsCheckOption : List ℕ → Type 0
IsCheckOption word = ((word ≡ codes "--order") ⊎ (word ≡ codes "--real-time")) ⊎ (word ≡ codes "--sessions")

-- this word stands among them
abbrev pub Has : List ℕ → List (List ℕ) → Type 0
Has word options = Any (λ option. option ≡ word) options

-- the words are options of a check, in any order, and each thing is wanted exactly where its word
-- stands
pub record SaysCheck (options : List (List ℕ)) (wanted : CheckWanted) : Type 0 where
  pub known : All IsCheckOption options
  pub order : IsTrue wanted.order ↔ Has (codes "--order") options
  pub real_time : IsTrue wanted.real_time ↔ Has (codes "--real-time") options
  pub sessions : IsTrue wanted.sessions ↔ Has (codes "--sessions") options
