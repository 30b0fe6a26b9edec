-- Why a transaction isn't decided, of a certifier that keeps this and has found a site to have lost
-- its pledge or none.
use Rattle.std.specs.Prelude.{◌≡◌, ◌≢◌, ◌<◌, ◌≤◌, ◌⊎◌, ℕ, List, [], Option, Some, None}
use Rattle.sgt_names.specs.Draft.{at_site}
use Rattle.sgt_edges.specs.declared.edge.Edge.{Edge}
use Rattle.sgt_site.specs.State.{SiteState, IsSite}
use Rattle.sgt_site.specs.Refused.{RefusesPledge, MayPledge}
use Rattle.sgt_site.specs.declared.fault.SiteFault.{SiteFault}
use Rattle.sgt_site.specs.declared.fault.SiteFault.TheVariants as site
use Rattle.sgt_certifier.specs.Certifier.{State}
use Rattle.sgt_certifier.specs.History.{expect, decide, withdraw, tx_under, IsAllowed, Replays}
use Rattle.sgt_certifier.specs.Kept.{Kept}
use Rattle.sgt_certifier.specs.declared.call.Call.{Call}
use Rattle.sgt_certifier.specs.declared.call.CertifierFault.TheVariants as certifier
use Rattle.sgt_service_agreement.specs.Agreed.{VersionsAgree}
use Rattle.sgt_service_agreement.specs.Fault.{of_site}
use Rattle.sgt_service_agreement.specs.declared.fault.ServiceFault.{ServiceFault}
use Rattle.sgt_service_agreement.specs.declared.fault.ServiceFault.TheVariants.{Memory, Site, Certifier, NotPledged}
use Rattle.sgt_service_locks.specs.Guarded.{IsGatheredBelow}
use Rattle.sgt_service_locks.specs.Refused.{HandsOn}
use Rattle.sgt_service_locks.specs.declared.active.Active.{Active}

-- a site was found to have lost its pledge; or else the certifier has another transaction under the
-- handle
abbrev pub RefusesActive : Option ℕ → State → Active → ServiceFault → Type 0
RefusesActive (Some lost) s active f = f ≡ NotPledged lost
RefusesActive None s active f = (f ≡ Certifier certifier.Unknown)
    × (tx_under s active.handle ≢ active.tx)

-- the transaction touches an item at the site
abbrev pub TouchesAt : Active → ℕ → Type 0
TouchesAt active site = at_site site active.draft.touched ≢ []

-- what stands at its place is the site of this number, with the versions that the history counts
abbrev pub AgreesAt : List Call → ℕ → SiteState → Type 0
AgreesAt history here s = (s.number ≡ here) × VersionsAgree history s

-- a gathering there that is refused: that isn't so; or it is, and the site refuses the pledge; or
-- nothing refuses it, and there was no
-- memory
abbrev pub RefusesGather : List Call → ℕ → SiteState → Active → ServiceFault → Type 0
RefusesGather history here s active (NotPledged number) = (number ≡ here)
    × (AgreesAt history here s → ⊥)
RefusesGather history here s active (Site f) =
    AgreesAt history here s × RefusesPledge s active.tx active.draft.touched f × (f ≢ site.Memory)
RefusesGather history here s active Memory = AgreesAt history here s
    × MayPledge s active.tx active.draft.touched
RefusesGather history here s active _ = ⊥

-- a pledge there that is refused: another site stands at the place, or the site of this number
-- refuses it
abbrev pub RefusesPledgeAt : ℕ → SiteState → Active → ServiceFault → Type 0
RefusesPledgeAt here s active f =
    ((s.number ≢ here) × (f ≡ NotPledged here))
    ⊎ ((s.number ≡ here)
    × ((told : SiteFault) × RefusesPledge s active.tx active.draft.touched told
    × (f ≡ of_site told)))

-- one of so many sites, which the transaction touches, refuses its gathering; and refuses its
-- pledge
abbrev pub IsUngathered : ℕ → List Call → Active → ServiceFault → Type 0
IsUngathered sites history active f =
    (here : ℕ) × (s : SiteState) × IsSite s × (here < sites) × TouchesAt active here
    × RefusesGather history here s active f

abbrev pub IsUnpledged : ℕ → Active → ServiceFault → Type 0
IsUnpledged sites active f =
    (here : ℕ) × (s : SiteState) × IsSite s × (here < sites) × TouchesAt active here
    × RefusesPledgeAt here s active f

-- no site was found to have lost its pledge, and the certifier has the transaction's number under
-- its handle
abbrev pub IsHeld : Option ℕ → State → Active → Type 0
IsHeld lost s active = (lost ≡ None) × (tx_under s active.handle ≡ active.tx)

-- of so many sites, each that it touches is there
abbrev pub AreThere : ℕ → Active → Type 0
AreThere sites active = (site : ℕ) → sites ≤ site → at_site site active.draft.touched ≡ []

-- nothing refuses a commit before it gathers
pub record MayGather (sites : ℕ) (lost : Option ℕ) (k : Kept) (active : Active) : Type 0 where
  pub held : IsHeld lost k.state active
  pub allowed : IsAllowed k.state (expect active.handle)
  pub there : AreThere sites active

-- why a commit at so many sites isn't decided, the first that holds: the transaction isn't held, no
-- room for its installs can be made, it
-- touches a site that isn't there, a gathering at a site that it touches is refused, or the
-- certifier doesn't decide on what was gathered
pub data IsUncommitted (sites : ℕ) (lost : Option ℕ) (k : Kept) (active : Active) : ServiceFault → Type 0 where
  at_first : (f : ServiceFault) → RefusesActive lost k.state active f
      → IsUncommitted sites lost k active f
  unexpected : (f : ServiceFault) → IsHeld lost k.state active
      → HandsOn k.state (expect active.handle) f
      → IsUncommitted sites lost k active f
  beyond : (here : ℕ) → IsHeld lost k.state active → IsAllowed k.state (expect active.handle)
      → sites ≤ here → TouchesAt active here
      → IsUncommitted sites lost k active (Site site.UnknownItem)
  ungathered : (f : ServiceFault) → MayGather sites lost k active
      → IsUngathered sites k.history active f
      → IsUncommitted sites lost k active f
  undecided : (edges : List Edge) (f : ServiceFault) → MayGather sites lost k active
      → IsGatheredBelow k.history active sites edges
      → HandsOn k.state (decide active.handle edges) f → IsUncommitted sites lost k active f

-- and a withdrawal
pub data IsNotWithdrawn (sites : ℕ) (lost : Option ℕ) (k : Kept) (active : Active) : ServiceFault → Type 0 where
  held_back : (f : ServiceFault) → RefusesActive lost k.state active f
      → IsNotWithdrawn sites lost k active f
  absent : (here : ℕ) → IsHeld lost k.state active → sites ≤ here → TouchesAt active here
      → IsNotWithdrawn sites lost k active (Site site.UnknownItem)
  unpledged : (f : ServiceFault) → IsHeld lost k.state active → AreThere sites active
      → IsUnpledged sites active f
      → IsNotWithdrawn sites lost k active f
  declined : (f : ServiceFault) → IsHeld lost k.state active → AreThere sites active
      → HandsOn k.state (withdraw active.handle) f
      → IsNotWithdrawn sites lost k active f

-- why some certifier with so many sites, whose state is the replay of its history, doesn't commit
-- the transaction, with some site found to
-- have lost its pledge or none; and why some such certifier doesn't withdraw it
abbrev pub IsToldOfCommit : ℕ → Active → ServiceFault → Type 0
IsToldOfCommit sites active f =
    (lost : Option ℕ) × (k : Kept) × Replays k.history k.state × IsUncommitted sites lost k active f

abbrev pub IsToldOfWithdraw : ℕ → Active → ServiceFault → Type 0
IsToldOfWithdraw sites active f =
    (lost : Option ℕ) × (k : Kept) × Replays k.history k.state
    × IsNotWithdrawn sites lost k active f
