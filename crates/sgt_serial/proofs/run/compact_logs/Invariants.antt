use Rattle.std.proofs.Common.{◌≡◌, take}
use Rattle.sgt_serial.proofs.run.compact_logs.Given as goal

abbrev pub invariant-loop-log : goal.invariant-loop-log
invariant-loop-log l = l.logs.items ≡ take l.log-index l.sites
