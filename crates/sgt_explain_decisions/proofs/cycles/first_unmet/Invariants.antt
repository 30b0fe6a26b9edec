use Rattle.std.proofs.Common.{◌≡◌, take}
use Rattle.sgt_explain_decisions.specs.Cycles.{AreShown}
use Rattle.sgt_explain_decisions.specs.Sought.{last_stop}
use Rattle.sgt_explain_decisions.proofs.cycles.first_unmet.Given as goal

abbrev pub invariant-loop-place : goal.invariant-loop-place
invariant-loop-place l = record {
  from : l.from ≡ last_stop l.fn.tx (take l.place l.walk);
  shown : AreShown l.sought l.fn.tx l.walk l.place;
}
