-- The replies of a core that stands for states of the model.
use Rattle.std.specs.Prelude.{◌≡◌, ℕ, List, ◌++◌}
use Rattle.sgt_notation.specs.Spelling.{text_of_lines}
use Rattle.sgt_notation.specs.declared.event.EventLine.{EventLine}
use Rattle.sgt_core_model.specs.Core.{CoreState}
use Rattle.sgt_core_machine.specs.Machine.{GoesOn, Parts}
use Rattle.sgt_core_model.specs.Runs.{IsMemory}
use Rattle.sgt_core_model.specs.declared.reply.Reply.{Reply}
use Rattle.sgt_core.specs.Replay.{MayAnswer, Replies}
use Rattle.sgt_core.specs.Reply.{reply_lines}

-- the core answers a line
abbrev pub AnswersLine : Parts → EventLine → Reply → Parts → Type 0
AnswersLine old line reply new = GoesOn (λ c d. MayAnswer c line reply d) old new
    × (IsMemory reply → ⊥)

-- the lines are answered so, and the replies are written
pub record RepliesSo (c : CoreState) (lines : List EventLine) (d : CoreState) (text written : List ℕ) : Type 0 where
  pub replies : List Reply
  pub run : Replies c lines replies d
  pub appended : written ≡ text ++ text_of_lines (reply_lines lines replies)

-- the core answers the lines, and its replies are written
abbrev pub WritesReplies : Parts → List EventLine → Parts → (text written : List ℕ) → Type 0
WritesReplies old lines new text written = GoesOn (λ c d. RepliesSo c lines d text written) old new
