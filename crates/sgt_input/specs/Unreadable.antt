-- The first line of an input that can't be read, where it is known which lines an input may begin
-- with.
use Rattle.std.specs.Prelude.{◌≡◌, ◌≤◌, ◌⊎◌, ℕ, ◌+◌, List, [], ◌∷◌, ◌++◌, codes, decimal, length}
use Rattle.sgt_names.specs.Limits.{max_line}
use Rattle.sgt_notation.specs.Lines.{IsLongerThan}
use Rattle.sgt_notation.specs.Spelling.{HasNoLf, text_of_lines}
use Rattle.sgt_notation.specs.declared.fault.NotationFault.{NotationFault}
use Rattle.sgt_notation.specs.declared.fault.NotationFault.TheVariants.{NotALine, TooLong, Memory}

-- the next line has its LF, and may not stand behind these
pub record IsMisplaced (begins : List (List ℕ) → Type 0) (before : List (List ℕ)) (rest : List ℕ) : Type 0 where
  pub line : List ℕ
  pub more : List ℕ
  pub text : rest ≡ line ++ 10 ∷ more
  pub none : HasNoLf line
  pub short : length line ≤ max_line
  pub not : begins (before ++ line ∷ []) → ⊥

-- the input ends behind these lines without an LF, or with no line at all
pub record IsCutOff (before : List (List ℕ)) (rest : List ℕ) : Type 0 where
  pub none : HasNoLf rest
  pub short : length rest ≤ max_line
  pub empty : rest ≡ [] → before ≡ []

-- why the line that comes behind these can't be read. (Of the faults of lines want of memory is
-- none.)
abbrev pub Blocks : (List (List ℕ) → Type 0) → List (List ℕ) → List ℕ → NotationFault → Type 0
Blocks begins before rest NotALine = IsMisplaced begins before rest ⊎ IsCutOff before rest
Blocks begins before rest TooLong = IsLongerThan max_line rest
Blocks begins before rest Memory = ⊥

-- the first line that can't be read has this number, from 1, and this fault
pub record IsFirstUnreadable (begins : List (List ℕ) → Type 0) (bytes : List ℕ) (n : ℕ) (fault : NotationFault) : Type
    0 where
  pub before : List (List ℕ)
  pub rest : List ℕ
  pub text : bytes ≡ text_of_lines before ++ rest
  pub begun : begins before
  pub number : n ≡ length before + 1
  pub blocks : Blocks begins before rest fault

-- ---- how it is told

-- the number of a fault of lines
abbrev pub line_fault_number : NotationFault → ℕ
line_fault_number NotALine = 1
line_fault_number TooLong = 2
line_fault_number Memory = 3

-- the line that says which line can't be read
abbrev pub unreadable_text : ℕ → NotationFault → List ℕ
unreadable_text line fault =
    codes "! L" ++ (decimal (line_fault_number fault) ++ (codes " line " ++ (decimal line ++ codes "\n")))
