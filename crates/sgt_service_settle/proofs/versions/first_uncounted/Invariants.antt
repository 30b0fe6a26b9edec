use Rattle.std.proofs.Common.{◌≡◌, ℕ, ◌<◌, Some}
use Rattle.std.specs.Prelude.{slice_get}
use Rattle.sgt_site.specs.State.{SiteState}
use Rattle.sgt_service_agreement.specs.Agreed.{VersionsAgree}
use Rattle.sgt_service_settle.proofs.versions.first_uncounted.Given as goal

abbrev pub invariant-loop-k : goal.invariant-loop-k
invariant-loop-k l = (j : ℕ) (s : SiteState) → j < l.k → slice_get l.sites j ≡ Some s
    → VersionsAgree l.certifier.history s
