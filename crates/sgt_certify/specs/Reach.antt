-- How far bytes are read that are answered.
use Rattle.std.specs.Prelude.{◌≡◌, ◌≤◌, ℕ, ◌+◌, ◌*◌, List, [], ◌∷◌, ◌++◌, length}
use Rattle.sgt_names.specs.Limits.{max_line}
use Rattle.sgt_notation.specs.Lines.{IsLongerThan}
use Rattle.sgt_notation.specs.Spelling.{text_of_lines}
use Rattle.sgt_audit.specs.Faults.{bytes_of}
use Rattle.sgt_audit.specs.declared.faults.Fault.{Fault}
use Rattle.sgt_certify_faults.specs.Faults.{HasFault, IsFaultless, lines_of}

-- behind so many bytes stand more than a line has, with no LF among them: where that is so first, a line begins that
-- is too long
pub record IsLongAt (bytes : List ℕ) (n : ℕ) : Type 0 where
  pub front : List ℕ
  pub more : List ℕ
  pub text : bytes ≡ front ++ more
  pub counted : n ≡ length front
  pub long : IsLongerThan max_line more

-- so many reads go no further than into the line that is too long: each but the last gave a byte of the lines before
-- it, or of as many as tell that it is too long
abbrev pub ReadsNoFurther : List ℕ → ℕ → Type 0
ReadsNoFurther bytes reads = (n : ℕ) → IsLongAt bytes n → reads ≤ n + max_line + 1

-- the last read began before it was told that the line is too long: what had been given before are no more than the
-- lines before it and as many bytes as a line may have. So many bytes are left now, and so many were given by the
-- last read
abbrev pub BeginsNoneBehind : List ℕ → (left given : ℕ) → Type 0
BeginsNoneBehind bytes left given = (n : ℕ) → IsLongAt bytes n → length bytes ≤ n + max_line + (left + given)

-- where no line has a fault that no certificate mends, and none is too long, none of the bytes are left
abbrev pub ReadsAll : (bytes left : List ℕ) → Type 0
ReadsAll bytes left = IsFaultless bytes → ((n : ℕ) → IsLongAt bytes n → ⊥) → left ≡ []

-- so many bytes stand up to the line with the fault, with its LF
abbrev pub reach : (bytes : List ℕ) (n : ℕ) (f : Fault) → HasFault bytes n f → ℕ
reach bytes n f h = length (text_of_lines (lines_of h.front)) + length (bytes_of h.next) + 1

-- the last read began before there were many more bytes than stand up to a fault: what had been given before are no
-- more than 16 times as many, and 64 MiB. So many bytes are left now, and so many were given by the last read
abbrev pub BeginsLittleBehind : List ℕ → (left given : ℕ) → Type 0
BeginsLittleBehind bytes left given = (n : ℕ) (f : Fault) (h : HasFault bytes n f)
    → length bytes ≤ 16 * reach bytes n f h + 67108864 + (left + given)

-- ---- for private clauses

-- behind whatever comes, the lines in so many of these bytes have no fault
abbrev pub IsJudgedTo : List ℕ → (judged : ℕ) → Type 0
IsJudgedTo text judged = (more : List ℕ) (n : ℕ) (f : Fault) (h : HasFault (text ++ more) n f)
    → judged ≤ length (text_of_lines (lines_of h.front))

-- so many bytes may be read where so many were judged
abbrev pub IsWithinRoom : (judged many : ℕ) → Type 0
IsWithinRoom judged many = many ≤ 16 * judged + 66060287

-- an LF stands in these bytes, behind no more than a line may have
abbrev pub HasLfWithin : List ℕ → Type 0
HasLfWithin bytes = (front : List ℕ) × (behind : List ℕ) × (bytes ≡ front ++ 10 ∷ behind) × (length front ≤ max_line)

-- so from each place on: the bytes are whole lines, none of them too long
abbrev pub AreShort : List ℕ → Type 0
AreShort [] = Unit {0}
AreShort (b ∷ bytes) = HasLfWithin (b ∷ bytes) × AreShort bytes
