use Rattle.std.proofs.Common.{◌≡◌, take}
use Rattle.sgt_history_verdict.specs.Named.{write_reads}
use Rattle.sgt_history_verdict.proofs.anomaly.count_wr.Given as goal

abbrev pub invariant-loop-step : goal.invariant-loop-step
invariant-loop-step l = l.count ≡ write_reads (take l.step-index l.steps)
