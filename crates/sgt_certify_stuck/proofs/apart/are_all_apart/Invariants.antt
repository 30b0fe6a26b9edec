use Rattle.std.proofs.Common.{◌≡◌, ℕ, ◌<◌, Some}
use Rattle.std.specs.Prelude.{slice_get}
use Rattle.sgt_bundle.specs.declared.bundle.SiteLog.{SiteLog}
use Rattle.sgt_certify_stuck.specs.Apart.{AreApart}
use Rattle.sgt_certify_stuck.proofs.apart.are_all_apart.Given as goal

abbrev pub invariant-loop-log : goal.invariant-loop-log
invariant-loop-log l = (k : ℕ) (log : SiteLog) → k < l.log-index → slice_get l.sites k ≡ Some log
    → AreApart log.entries l.sources l.barred
