use Rattle.std.proofs.Common.{◌≡◌, ℕ, List, ◌++◌, take}
use Rattle.std.specs.Prelude.{string_bytes}
use Rattle.sgt_explain_decisions.specs.Cycles.{TellsCycles}
use Rattle.sgt_explain_decisions.proofs.cycles.push_cycles.Given as goal

abbrev pub invariant-loop-number : goal.invariant-loop-number
invariant-loop-number l = (told : List ℕ) × TellsCycles l.sought 0 (take l.number l.decisions) told
    × (string_bytes l.out ≡ string_bytes l.initial.out ++ told)
