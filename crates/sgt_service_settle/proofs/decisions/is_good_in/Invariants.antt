use Rattle.sgt_service_settle.proofs.Ticketing.{IsWalked}
use Rattle.sgt_service_settle.proofs.decisions.is_good_in.Given as goal

abbrev pub invariant-loop-call : goal.invariant-loop-call
invariant-loop-call l = IsWalked l.history l.call-index l.begun l.before l.number l.ticket.number
