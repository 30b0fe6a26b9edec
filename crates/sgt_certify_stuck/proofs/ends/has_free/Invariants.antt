use Rattle.std.proofs.Common.{take, All}
use Rattle.sgt_bundle.specs.declared.bundle.SiteLog.{SiteLog}
use Rattle.sgt_certify_stuck.specs.private.Ends.{IsFreeIn}
use Rattle.sgt_certify_stuck.proofs.ends.has_free.Given as goal

abbrev pub invariant-loop-log : goal.invariant-loop-log
invariant-loop-log l = All (λ (log : SiteLog). IsFreeIn l.sites l.decided log → ⊥) (take l.log-index l.sites)
