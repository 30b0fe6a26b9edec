use Rattle.std.proofs.Common.{◌≡◌, length, take}
use Rattle.sgt_explain_decisions.specs.Sought.{Seeks, AreSoughtFor, last_stop}
use Rattle.sgt_explain_decisions.proofs.sought.add_walk.Given as goal

abbrev pub invariant-loop-step : goal.invariant-loop-step
invariant-loop-step l = record {
  many : length l.classes.items ≡ 65536;
  from : l.from ≡ last_stop l.fn.tx (take l.step-index l.walk);
  seeks : Seeks l.initial.sought l.initial.classes.items l.sought l.classes.items;
  walk : AreSoughtFor l.sought l.fn.tx l.walk l.step-index;
}
