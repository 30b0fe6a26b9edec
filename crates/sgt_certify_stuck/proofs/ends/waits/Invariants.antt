use Rattle.std.proofs.Common.{◌≡◌, ℕ, ◌<◌, Some}
use Rattle.std.specs.Prelude.{slice_get}
use Rattle.sgt_bundle.specs.declared.bundle.SiteLog.{SiteLog}
use Rattle.sgt_certify_stuck.specs.private.Ends.{IsNext}
use Rattle.sgt_certify_stuck.proofs.ends.waits.Given as goal

abbrev pub invariant-loop-log : goal.invariant-loop-log
invariant-loop-log l = (i : ℕ) (log : SiteLog) → i < l.log-index → slice_get l.sites i ≡ Some log
    → IsNext log.entries l.decided l.tx
