use Rattle.std.proofs.Common.{◌≡◌}
use Rattle.sgt_compact.proofs.bundle.site_logs.Given as goal

abbrev pub invariant-loop-log : goal.invariant-loop-log
invariant-loop-log l = l.whole.items ≡ l.yielded
