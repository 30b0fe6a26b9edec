-- Where the reading of an input stops.
use Rattle.std.specs.Prelude.{◌≡◌, ◌≢◌, ℕ, List, [], Option, IfSome}
use Rattle.sgt_notation.specs.Spelling.{text_of_lines}
use Rattle.sgt_notation.specs.declared.fault.NotationFault.TheVariants.{Memory}
use Rattle.sgt_input.specs.declared.reading.Stop.{Stop}
use Rattle.sgt_input.specs.declared.reading.Stop.TheVariants.{Ended, Unreadable}
use Rattle.sgt_input.specs.Unreadable.{IsFirstUnreadable}

-- an input has these lines, which were taken, and its bytes are their text
pub record IsTaken (begins took : List (List ℕ) → Type 0) (told : Option (List ℕ)) : Type 0 where
  pub lines : List (List ℕ)
  pub some : lines ≢ []
  pub begun : begins lines
  pub taken : took lines
  pub text : IfSome told (λ bytes. bytes ≡ text_of_lines lines)

-- at the end of what the bytes told spell, or at their first line that can't be read
abbrev pub IsStop : (begins took : List (List ℕ) → Type 0) → Option (List ℕ) → Stop → Type 0
IsStop begins took told Ended = IsTaken begins took told
IsStop begins took told (Unreadable line fault) = (fault ≢ Memory)
    × IfSome told (λ bytes. IsFirstUnreadable begins bytes line fault)
