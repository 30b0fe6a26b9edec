-- The line of a script that was run.
use Rattle.std.specs.Prelude.{◌≡◌, ℕ, List, [], ◌++◌, length, codes, decimal, Option, Some, None, option_map}
use Rattle.std.specs.List.{last_or}
use Rattle.sgt_workers.specs.declared.ticket.Done.{Done}
use Rattle.sgt_workers.specs.declared.ticket.Ticket.{Ticket}
use Rattle.sgt_workers.specs.declared.ticket.Ending.{Ending}
use Rattle.sgt_workers.specs.declared.ticket.Ending.TheVariants.{Committed, Refused, Withdrawn}

-- the ticket of the last try
abbrev pub last_ticket : Done → Option Ticket
last_ticket d = last_or None d.tickets.items

abbrev pub ending_text : Ending → List ℕ
ending_text Committed = codes " committed "
ending_text Refused = codes " refused "
ending_text Withdrawn = codes " withdrawn "

-- the line of a script: its number, how its last try ended, the transaction of that try, and how
-- many tries there were
abbrev pub told_text : Done → Option Ticket → List ℕ
told_text d (Some t) =
    codes "s" ++ (decimal d.job ++ (ending_text t.verdict ++ (decimal t.tx ++ (codes " tries " ++ decimal (length d.tickets.items)))))
told_text d None = []

abbrev pub done_text : Done → List ℕ
done_text d = told_text d (last_ticket d)

-- the last try of the script was committed
abbrev pub IsCommitted : Done → Type 0
IsCommitted d = option_map (λ (t : Ticket). t.verdict) (last_ticket d) ≡ Some Committed
