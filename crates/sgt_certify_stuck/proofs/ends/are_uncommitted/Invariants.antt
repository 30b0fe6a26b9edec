use Rattle.std.proofs.Common.{take, All}
use Rattle.sgt_bundle.specs.declared.bundle.SiteLog.{SiteLog}
use Rattle.sgt_certify_stuck.specs.private.Ends.{HasNoCommit}
use Rattle.sgt_certify_stuck.proofs.ends.are_uncommitted.Given as goal

abbrev pub invariant-loop-log : goal.invariant-loop-log
invariant-loop-log l = All (λ (log : SiteLog). HasNoCommit log.entries l.others) (take l.log-index l.sites)
