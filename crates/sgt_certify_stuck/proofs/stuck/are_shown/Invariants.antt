use Rattle.std.proofs.Common.{take, All}
use Rattle.sgt_certify_stuck.specs.private.Ends.{IsLogShown}
use Rattle.sgt_certify_stuck.proofs.stuck.are_shown.Given as goal

abbrev pub invariant-loop-log : goal.invariant-loop-log
invariant-loop-log l = All (IsLogShown l.sites l.stuck l.decided) (take l.log-index l.sites)
