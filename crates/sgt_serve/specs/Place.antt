-- What a place of bundles answers in a talk, and how many growths are refused here.
use Rattle.std.specs.Prelude.{◌≡◌, ◌⊎◌, ℕ, ◌+◌, List, [], ◌∷◌, ◌++◌, Result, Ok, Err}
use Rattle.sgt_core_model.specs.declared.reply.CoreFault.TheVariants as core_fault
use Rattle.sgt_core_model.specs.declared.reply.Reply.{Reply}
use Rattle.sgt_core_model.specs.declared.reply.Reply.TheVariants.{Fault}
use Rattle.sgt_pipe.specs.declared.handed.Handed.{Handed}
use Rattle.sgt_pipe.specs.declared.handed.KeepFault.{KeepFault}
use Rattle.sgt_pipe.specs.declared.handed.KeepFault.TheVariants as keep
use Rattle.sgt_courses.specs.declared.answer.Answer.{Answer}
use Rattle.sgt_courses.specs.declared.answer.Answer.TheVariants.{Replies, Cut, Uncut, Unreadable}
use Rattle.sgt_courses.specs.declared.answer.CutFault.TheVariants.{ActiveLeft, Memory, Unwritten}
use Rattle.sgt_courses.specs.Course.{Turn}

-- what a place was handed and answered so far, and how many growths were refused here
pub record Kept : Type 0 where
  pub items : List (ℕ × List ℕ)
  pub answers : List (Result ℕ KeepFault)
  pub refused : ℕ

abbrev pub kept_at : Handed → ℕ → Kept
kept_at handed refused = record { items = handed.items; answers = handed.answers; refused = refused }

-- how many growths a core was refused that replies so: one where it tells want of memory
abbrev pub refused_to : Reply → ℕ
refused_to (Fault core_fault.Memory) = 1
refused_to _ = 0

-- what the place answered where a line is answered so, and how many growths were refused here: the
-- number of a cut; just what is told as refused by it; and want of memory is told where one growth
-- was refused, or where the place told just that
abbrev pub PlaceSays : Answer → List (Result ℕ KeepFault) → ℕ → Type 0
PlaceSays (Replies reply) said refused = (said ≡ []) × (refused ≡ refused_to reply)
PlaceSays (Cut number) said refused = (said ≡ Ok number ∷ []) × (refused ≡ 0)
PlaceSays (Uncut ActiveLeft) said refused = (said ≡ []) × (refused ≡ 0)
PlaceSays (Uncut Memory) said refused = ((said ≡ []) × (refused ≡ 1))
    ⊎ ((said ≡ Err keep.Memory ∷ []) × (refused ≡ 0))
PlaceSays (Uncut Unwritten) said refused = (said ≡ Err keep.Refused ∷ []) × (refused ≡ 0)
PlaceSays Unreadable said refused = (said ≡ []) × (refused ≡ 0)

-- so, turn after turn
abbrev pub PlaceSaid : List Turn → List (Result ℕ KeepFault) → ℕ → Type 0
PlaceSaid [] said refused = (said ≡ []) × (refused ≡ 0)
PlaceSaid (turn ∷ turns) said refused = (own : List (Result ℕ KeepFault)) × (more : List (Result ℕ KeepFault))
    × (k : ℕ) × (m : ℕ) × (said ≡ own ++ more) × (refused ≡ k + m) × PlaceSays turn.answer own k
    × PlaceSaid turns more m
