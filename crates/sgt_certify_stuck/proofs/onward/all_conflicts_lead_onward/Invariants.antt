use Rattle.std.proofs.Common.{◌≡◌, ℕ, ◌<◌, Some}
use Rattle.std.specs.Prelude.{slice_get}
use Rattle.sgt_bundle.specs.declared.bundle.SiteLog.{SiteLog}
use Rattle.sgt_certify_stuck.specs.Onward.{ConflictsLeadOnward}
use Rattle.sgt_certify_stuck.proofs.onward.all_conflicts_lead_onward.Given as goal

abbrev pub invariant-loop-log : goal.invariant-loop-log
invariant-loop-log l = (k : ℕ) (log : SiteLog) → k < l.log-index → slice_get l.sites k ≡ Some log
    → ConflictsLeadOnward log.entries l.places
