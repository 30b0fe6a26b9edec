-- The texts of answers.
use Rattle.std.specs.Prelude.{ℕ, List, ◌++◌, codes, decimal}
use Rattle.sgt_history.specs.declared.history.Operation.{Operation}
use Rattle.sgt_history_kept.specs.declared.passed.Reason.{Reason}
use Rattle.sgt_history_kept.specs.declared.passed.Reason.TheVariants.{Session, Time}
use Rattle.sgt_history_kept.specs.declared.passed.Unkept.{Unkept}
use Rattle.sgt_check.specs.Text.{Spelling, number_text, operation_text}
use Rattle.sgt_check_kept.specs.Text.{session_text, time_text}

-- the line of the order
abbrev pub stray_text : ℕ → List ℕ
stray_text number = codes "no order\norder line " ++ (decimal number ++ codes "\n")

-- the operation of the transaction in this line, and what its item has
abbrev pub break_text : {I V : Type 0} → Spelling I V → ℕ → Operation I V → ℕ → List ℕ
break_text s line o found = codes "no order\nline " ++ (number_text line ++ (codes " " ++ (s.id line
    ++ (operation_text s o ++ (codes " finds " ++ (decimal found ++ codes "\n"))))))

-- the step from the transaction in this line to one before it in the order; sessions are named by number
abbrev pub reason_text : {I V : Type 0} → Spelling I V → (ℕ → List ℕ) → (line other : ℕ) → Reason → List ℕ
reason_text s name line other (Session session) = session_text s name line other session
reason_text s name line other (Time done begin) = time_text s line other done begin

abbrev pub back_text : {I V : Type 0} → Spelling I V → (ℕ → List ℕ) → Unkept → List ℕ
back_text s name u = codes "no order\n" ++ reason_text s name u.line u.other u.reason
