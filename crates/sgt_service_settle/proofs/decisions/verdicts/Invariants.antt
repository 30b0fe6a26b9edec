use Rattle.sgt_service_settle.proofs.Tabling.{IsTabled}
use Rattle.sgt_service_settle.proofs.decisions.verdicts.Given as goal

abbrev pub invariant-loop-call : goal.invariant-loop-call
invariant-loop-call l = IsTabled l.history l.call-index l.begun l.before l.verdicts.items
