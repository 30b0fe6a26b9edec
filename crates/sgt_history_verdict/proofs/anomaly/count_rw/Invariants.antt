use Rattle.std.proofs.Common.{◌≡◌, take}
use Rattle.sgt_history_verdict.specs.Named.{read_writes}
use Rattle.sgt_history_verdict.proofs.anomaly.count_rw.Given as goal

abbrev pub invariant-loop-step : goal.invariant-loop-step
invariant-loop-step l = l.count ≡ read_writes (take l.step-index l.steps)
