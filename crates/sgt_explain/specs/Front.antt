-- How much of a text its verdict is told of.
use Rattle.std.specs.Prelude.{◌≡◌, ◌⊎◌, ℕ, ◌+◌, ◌-◌, List, [], ◌∷◌, ◌++◌, length, All, Option, IfSome}
use Rattle.std.specs.Io.KnownBytes.{prepend_known}
use Rattle.sgt_names.specs.Limits.{max_line}
use Rattle.sgt_notation.specs.Spelling.{HasNoLf, text_of_lines}
use Rattle.sgt_audit.specs.Faults.{BeginsNoneBehind, ReadsNoFurther}
use Rattle.sgt_audit.specs.declared.verdict.Verdict.{Verdict}
use Rattle.sgt_audit.specs.declared.verdict.Verdict.TheVariants.{Yes, No}

-- behind whole lines a front ends with a line and its LF; or with the line in which the bytes end, or
-- with so much of a line as is too long
abbrev pub EndsIn : (before line front rest : List ℕ) → Type 0
EndsIn before line front rest = (front ≡ before ++ (line ++ 10 ∷ []))
    ⊎ ((front ≡ before ++ line) × ((rest ≡ []) ⊎ (length line ≡ max_line + 1)))

-- the front of the bytes ends in line n, and with it
pub record EndsWithLine (bytes : List ℕ) (n : ℕ) (front : List ℕ) : Type 0 where
  pub before : List (List ℕ)
  pub line : List ℕ
  pub rest : List ℕ
  pub text : bytes ≡ front ++ rest
  pub whole : All HasNoLf before
  pub one : HasNoLf line
  pub number : n ≡ length before + 1
  pub ends : EndsIn (text_of_lines before) line front rest

-- the front of the bytes that a verdict is told of: with a yes all of them, with a no the lines up to and with
-- the one that has the first fault
abbrev pub IsFrontOf : (bytes : List ℕ) → Verdict → (front : List ℕ) → Type 0
IsFrontOf bytes (Yes committed refused withdrawn) front = front ≡ bytes
IsFrontOf bytes (No n f) front = EndsWithLine bytes n front

-- behind a text that was read before no read was begun once the line with the first fault of all was whole, where
-- there is one; and each read but the last gave a byte of the lines up to it
pub record ReadsToFault {R : Type 0} (tells : R → Option (List ℕ)) (asked last : R → ℕ) (before : List ℕ) (old new : R)
    : Type 0 where
  pub none_behind : IfSome (prepend_known before (tells old))
      (λ bytes. IfSome (tells new) (λ left. BeginsNoneBehind bytes (length left) (last new)))
  pub no_further : IfSome (prepend_known before (tells old))
      (λ bytes. ReadsNoFurther bytes (length before + (asked new - asked old)))

-- or no read was made
abbrev pub ReadsOn : {R : Type 0} → (tells : R → Option (List ℕ)) → (asked last : R → ℕ) → (before : List ℕ)
    → (old new : R) → Type 0
ReadsOn tells asked last before old new = (new ≡ old) ⊎ ReadsToFault tells asked last before old new
