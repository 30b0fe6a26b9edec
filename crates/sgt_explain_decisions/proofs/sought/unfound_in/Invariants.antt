use Rattle.std.proofs.Common.{◌≡◌, length}
use Rattle.sgt_explain_decisions.specs.Sought.{AreUnfound, WalksAreSought, AreMarked}
use Rattle.sgt_explain_decisions.proofs.sought.unfound_in.Given as goal

abbrev pub invariant-loop-decision : goal.invariant-loop-decision
invariant-loop-decision l = record {
  none : AreUnfound l.sought;
  walks : WalksAreSought l.sought l.decisions l.decision-index;
  marked : AreMarked l.sought l.classes.items;
  many : length l.classes.items ≡ 65536;
}
