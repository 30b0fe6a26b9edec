use Rattle.sgt_service_settle.proofs.Naming.{IsNamingOf}
use Rattle.sgt_service_settle.proofs.names.windows.Given as goal

abbrev pub invariant-loop-call : goal.invariant-loop-call
invariant-loop-call l = IsNamingOf l.history l.call-index l.windows.items
