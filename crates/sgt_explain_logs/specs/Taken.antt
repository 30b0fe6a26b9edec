-- How far logs are read.
use Rattle.std.specs.Prelude.{◌≡◌, ◌⊎◌, ℕ, ◌+◌, ◌≤◌, List, ◌++◌, length, Option, Some, None, IfSome}
use Rattle.std.specs.Io.KnownBytes.{prepend_known}
use Rattle.sgt_notation.specs.Spelling.{HasNoLf}
use Rattle.sgt_certify.specs.Reach.{AreShort, BeginsLittleBehind, BeginsNoneBehind}
use Rattle.sgt_certify_faults.specs.Faults.{IsFirstFault}
use Rattle.sgt_certify_faults.specs.declared.first.FirstFault.{FirstFault}
use Rattle.sgt_explain_logs.specs.declared.taking.Cut.{Cut}
use Rattle.sgt_explain_logs.specs.declared.taking.Logs.{Logs}

-- a text is all of the bytes; or it is their front, and they have this first fault
abbrev pub IsReadTo : (bytes text : List ℕ) → Option FirstFault → Type 0
IsReadTo bytes text None = text ≡ bytes
IsReadTo bytes text (Some first) = ((rest : List ℕ) × (bytes ≡ text ++ rest))
    × IsFirstFault bytes first.line first.fault

abbrev pub AreReadOf : (bytes : List ℕ) → Logs → Type 0
AreReadOf bytes logs = IsReadTo bytes logs.text.items logs.first

-- the last read of these bytes began before there were many more than stand up to a fault, and before it was told that
-- a line is too long. So many are left now, and so many were given by the last read
abbrev pub BeganInTime : List ℕ → (left given : ℕ) → Type 0
BeganInTime bytes left given = BeginsLittleBehind bytes left given × BeginsNoneBehind bytes left given

-- so it is of what was read behind a text that was read before, or no read was made
abbrev pub StopsSoon : {R : Type 0} → (tells : R → Option (List ℕ)) → (last : R → ℕ) → (before : List ℕ) → (old new : R)
    → Type 0
StopsSoon tells last before old new = (new ≡ old) ⊎ IfSome (prepend_known before (tells old))
    (λ bytes. IfSome (tells new) (λ left. BeganInTime bytes (length left) (last new)))

-- ---- for private clauses

-- so many of the bytes are whole lines, none of them too long, and no LF stands behind these before the place up to
-- which it was looked for
pub record IsCut (cut : Cut) (bytes : List ℕ) : Type 0 where
  pub lines : List ℕ
  pub opened : List ℕ
  pub rest : List ℕ
  pub text : bytes ≡ lines ++ (opened ++ rest)
  pub short : AreShort lines
  pub one : HasNoLf opened
  pub counted : cut.lines ≡ length lines
  pub seen : cut.seen ≡ length lines + length opened
  pub begun : cut.lines ≤ cut.seen
  pub within : cut.seen ≤ length bytes
