-- How the replies of a replay are written: a line for each event.
use Rattle.std.specs.Prelude.{ℕ, List, [], ◌∷◌, ◌++◌, codes, decimal}
use Rattle.sgt_notation.specs.Events.{event_text}
use Rattle.sgt_notation.specs.declared.event.EventLine.{EventLine}
use Rattle.sgt_core_model.specs.declared.reply.Reply.{Reply}
use Rattle.sgt_core_model.specs.declared.reply.Reply.TheVariants.{Begun, Value, Kept, Gathered, Yes, No, Installed, Withdrawn, Closed, Fault}
use Rattle.sgt_core_model.specs.declared.reply.CoreFault.{CoreFault}
use Rattle.sgt_core_model.specs.declared.reply.CoreFault.TheVariants as fault

-- the number of a fault
abbrev pub fault_number : CoreFault → ℕ
fault_number fault.Unknown = 1
fault_number fault.Ended = 2
fault_number fault.StepOpen = 3
fault_number fault.UnknownItem = 4
fault_number fault.NotGathered = 5
fault_number fault.AlreadyDone = 6
fault_number fault.WindowFull = 7
fault_number fault.ActiveLeft = 8
fault_number fault.Memory = 9
fault_number fault.GenerationsSpent = 10
fault_number fault.NumbersSpent = 11
fault_number fault.NotTouched = 12

-- the line of a refusal; of an answer, the line that asked for it with what the answer tells behind
-- it
abbrev pub answer_text : List ℕ → Reply → List ℕ
answer_text asked (Fault f) = codes "! E" ++ decimal (fault_number f)
answer_text asked (Begun tx) = asked ++ decimal tx
answer_text asked (Value v) = asked ++ (codes "=" ++ decimal v)
answer_text asked Yes = asked ++ codes " yes"
answer_text asked No = asked ++ codes " no"
answer_text asked (Closed ranks) = asked ++ (codes " " ++ decimal ranks)
answer_text asked Kept = asked
answer_text asked Gathered = asked
answer_text asked Installed = asked
answer_text asked Withdrawn = asked

-- the line of the reply to an event
abbrev pub reply_text : EventLine → Reply → List ℕ
reply_text line reply = answer_text (event_text line) reply

-- the lines of the replies to these events, one for each
abbrev pub reply_lines : List EventLine → List Reply → List (List ℕ)
reply_lines (line ∷ lines) (reply ∷ replies) = reply_text line reply ∷ reply_lines lines replies
reply_lines _ _ = []
