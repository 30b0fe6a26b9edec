-- Tickets against the calls of a history.
use Rattle.std.specs.Prelude.{◌≡◌, ◌↔◌, ℕ, min, List, Bool, true, false, Option, Some, None, slice_get}
use Rattle.sgt_certifier.specs.Certifier.{Ruling}
use Rattle.sgt_certifier.specs.Kept.{rulings_from, tx_at}
use Rattle.sgt_certifier.specs.declared.call.Decided.{Decided}
use Rattle.sgt_certifier.specs.declared.call.Decided.TheVariants as decided
use Rattle.sgt_certifier.specs.declared.call.Call.{Call}
use Rattle.sgt_certifier.specs.declared.call.Call.TheVariants as call
use Rattle.sgt_workers.specs.declared.ticket.Ticket.{Ticket}
use Rattle.sgt_workers.specs.declared.ticket.Done.{Done}
use Rattle.sgt_workers.specs.declared.ticket.Ending.{Ending}
use Rattle.sgt_workers.specs.declared.ticket.Ending.TheVariants.{Committed, Refused, Withdrawn}
use Rattle.sgt_service_settle.specs.Settled.{Run, IsGood, count_of}
use Rattle.sgt_service_settle.specs.declared.decisions.Verdict.{Verdict}

abbrev pub ending_of : Decided → Ending
ending_of (decided.Committed number) = Committed
ending_of (decided.Refused number walk) = Refused

abbrev pub is_decision : Call → Bool
is_decision (call.Decide h edges reply) = true
is_decision (call.Withdraw h number) = true
is_decision _ = false

-- the ticket tells the call's decision, where so many transactions were begun before the window
abbrev pub IsToldBy : Ticket → ℕ → Call → Type 0
IsToldBy t before (call.Decide h edges reply) = (t.tx ≡ tx_at before h)
    × (t.verdict ≡ ending_of reply)
IsToldBy t before (call.Withdraw h number) = (t.tx ≡ tx_at before h) × (t.verdict ≡ Withdrawn)
IsToldBy t before _ = ⊥

-- the decision of a call, where so many transactions were begun before the window
abbrev pub verdict_of : ℕ → Call → Option Verdict
verdict_of before (call.Decide h edges reply) =
    Some (record { before = before; handle = h; ending = ending_of reply })
verdict_of before (call.Withdraw h number) =
    Some (record { before = before; handle = h; ending = Withdrawn })
verdict_of before _ = None

-- the ticket has the transaction and the ending of the decision
abbrev pub TellsVerdict : Ticket → Verdict → Type 0
TellsVerdict t v = (t.tx ≡ tx_at v.before v.handle) × (t.verdict ≡ v.ending)

-- each decision of the table is that of its number
abbrev pub AreVerdicts : List Ruling → List Verdict → Type 0
AreVerdicts rulings verdicts = (t : Ticket) (v : Verdict) → slice_get verdicts t.number ≡ Some v
    → IsGood rulings t ↔ TellsVerdict t v

-- the table has at each number how many tickets have it, 2 standing for more
abbrev pub AreTallies : List ℕ → List Ticket → Type 0
AreTallies tallies tickets = (k tally : ℕ) → slice_get tallies k ≡ Some tally
    → tally ≡ min 2 (count_of k tickets)

-- no decision of the history has the ticket's number, transaction and verdict
abbrev pub IsStray : List Call → Ticket → Type 0
IsStray history t = IsGood (rulings_from 0 0 history) t → ⊥

-- the run has this history and these Dones
pub record IsRunOf (r : Run) (history : List Call) (dones : List Done) : Type 0 where
  pub told : r.certifier.state.rulings ≡ rulings_from 0 0 history
  pub answers : r.dones ≡ dones
