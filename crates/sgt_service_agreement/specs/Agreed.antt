-- The versions of a site and the installs of a certifier's history; what a gathering of edges is
-- refused for.
use Rattle.std.specs.Prelude.{◌≡◌, ◌≢◌, ℕ, List, All}
use Rattle.sgt_names.specs.Name.{Name}
use Rattle.sgt_names.specs.declared.draft.Touch.{Touch}
use Rattle.sgt_site.specs.State.{SiteState, version_at}
use Rattle.sgt_site.specs.Refused.{RefusesPledge, MayPledge}
use Rattle.sgt_site.specs.declared.fault.SiteFault.TheVariants as site
use Rattle.sgt_certifier.specs.History.{counted}
use Rattle.sgt_certifier.specs.declared.call.Call.{Call}
use Rattle.sgt_service_agreement.specs.declared.fault.ServiceFault.{ServiceFault}
use Rattle.sgt_service_agreement.specs.declared.fault.ServiceFault.TheVariants.{Memory, Site, NotPledged}

-- the version of the item at the site is the number of its installs there that the history counts
abbrev pub AgreesOn : List Call → SiteState → Name → Type 0
AgreesOn history s x = version_at s.entries x ≡ counted history s.number x

-- so it is of each item of the site
abbrev pub VersionsAgree : List Call → SiteState → Type 0
VersionsAgree history s = All (λ h. AgreesOn history s h.item) s.items

-- A `gather_agreed` that is refused: the versions don't agree; or they do, and the site refuses the
-- pledge; or they do, nothing
-- refuses the pledge, and there was no memory.
abbrev pub RefusesAgreed : List Call → SiteState → ℕ → List Touch → ServiceFault → Type 0
RefusesAgreed history s tx touched (NotPledged number) = (number ≡ s.number)
    × (VersionsAgree history s → ⊥)
RefusesAgreed history s tx touched (Site f) = VersionsAgree history s × RefusesPledge s tx touched f
    × (f ≢ site.Memory)
RefusesAgreed history s tx touched Memory = VersionsAgree history s × MayPledge s tx touched
RefusesAgreed history s tx touched _ = ⊥
