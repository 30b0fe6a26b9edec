use Rattle.std.proofs.Common.{◌≡◌, ℕ, List, ◌++◌, take}
use Rattle.std.specs.Prelude.{string_bytes}
use Rattle.sgt_explain_decisions.specs.Cycles.{TellsCycle}
use Rattle.sgt_explain_decisions.specs.Sought.{last_stop}
use Rattle.sgt_explain_decisions.proofs.cycles.push_cycle.Given as goal

abbrev pub invariant-loop-step : goal.invariant-loop-step
invariant-loop-step l = record {
  from : l.from ≡ last_stop l.fn.tx (take l.step-index l.walk);
  told : (told : List ℕ) × TellsCycle l.sought l.fn.tx (take l.step-index l.walk) told
      × (string_bytes l.out ≡ string_bytes l.initial.out ++ told);
}
