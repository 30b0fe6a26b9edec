use Rattle.std.proofs.Common.{take, All, Contains}
use Rattle.sgt_bundle.specs.declared.bundle.SiteLog.{SiteLog}
use Rattle.sgt_certify_logs.proofs.logs.stands_in.Given as goal

abbrev pub invariant-loop-log : goal.invariant-loop-log
invariant-loop-log l = All (λ (log : SiteLog). Contains log.entries l.entry → ⊥) (take l.log-index l.sites)
