use Rattle.sgt_audit_decisions.proofs.MetRanks.{AreMet}
use Rattle.sgt_audit_decisions.proofs.ranks.meet_each_once.Given as goal

abbrev pub invariant-loop-rank : goal.invariant-loop-rank
invariant-loop-rank l = AreMet l.ranks l.rank-index l.met
