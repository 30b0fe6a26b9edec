-- The faults that a call of the service hands on.
use Rattle.std.proofs.Common.{refl, ℕ, List, Option, Some, None, inl, inr, sym, subst}
use Rattle.sgt_names.specs.declared.draft.Touch.{Touch}
use Rattle.sgt_names.specs.Name.{Name}
use Rattle.sgt_arena.specs.declared.handle.Handle.{Handle}
use Rattle.sgt_edges.specs.declared.edge.Edge.{Edge}
use Rattle.sgt_site.specs.State.{SiteState}
use Rattle.sgt_site.specs.Refused.{RefusesRead, RefusesPledge}
use Rattle.sgt_site.specs.declared.fault.SiteFault.{SiteFault}
use Rattle.sgt_site.specs.declared.fault.SiteFault.TheVariants as site
use Rattle.sgt_certifier.specs.Certifier.{State}
use Rattle.sgt_certifier.specs.History.{begin, expect, decide, withdraw}
use Rattle.sgt_certifier.specs.Kept.{Kept, IsTold}
use Rattle.sgt_certifier.specs.declared.call.Call.{Call}
use Rattle.sgt_certifier.specs.declared.call.CertifierFault.{CertifierFault}
use Rattle.sgt_certifier.specs.declared.call.CertifierFault.TheVariants as certifier
use Rattle.sgt_service_agreement.specs.Fault.{of_site, of_certifier}
use Rattle.sgt_service_agreement.specs.declared.fault.ServiceFault.{ServiceFault}
use Rattle.sgt_service_agreement.specs.declared.fault.ServiceFault.TheVariants as fault
use Rattle.sgt_service_locks.specs.Refused.{IsOfBegin, IsOfCall, IsOfRead, IsOfWithdraw, IsOfCommit, IsRefusedBy, IsToldOfRead}
use Rattle.sgt_service_locks.specs.Undecided.{RefusesActive, RefusesGather, RefusesPledgeAt, IsUncommitted, IsNotWithdrawn, at_first, unexpected, beyond, ungathered, undecided, held_back, absent, unpledged, declined}
use Rattle.sgt_service_locks.specs.declared.active.Active.{Active}

-- ---- what a site refuses

read_told : (s : SiteState) (tx : ℕ) (x : Name) (f : SiteFault) → RefusesRead s tx x f → IsOfRead (of_site f)
read_told s tx x site.UnknownItem r = tt
read_told s tx x site.ReadTwice r = tt
read_told s tx x site.Ended r = tt
read_told s tx x site.PledgeOpen r = tt
read_told s tx x site.Memory r = tt
read_told s tx x _ r = absurd r

pub read_of : (here : ℕ) (s : SiteState) (tx : ℕ) (x : Name) (f : ServiceFault) → IsToldOfRead here s tx x f
    → IsOfRead f
read_of here s tx x f r = elim r [
  | inl other ↦ subst IsOfRead (sym other.1) tt
  | inr told ↦ subst IsOfRead (sym told.1.2) (read_told s tx x told.1.0 told.1.1)
]

pledge_told : (s : SiteState) (tx : ℕ) (touched : List Touch) (f : SiteFault) → RefusesPledge s tx touched f
    → IsOfWithdraw (of_site f)
pledge_told s tx touched site.UnknownItem r = tt
pledge_told s tx touched site.Ended r = tt
pledge_told s tx touched site.PledgeOpen r = tt
pledge_told s tx touched site.DraftDiffers r = tt
pledge_told s tx touched site.Memory r = tt
pledge_told s tx touched _ r = absurd r

pledge_at_told : (here : ℕ) (s : SiteState) (active : Active) (f : ServiceFault) → RefusesPledgeAt here s active f
    → IsOfWithdraw f
pledge_at_told here s active f r = elim r [
  | inl other ↦ subst IsOfWithdraw (sym other.1) tt
  | inr told ↦ subst IsOfWithdraw (sym told.1.2) (pledge_told s active.tx active.draft.touched told.1.0 told.1.1)
]

gather_told : (history : List Call) (here : ℕ) (s : SiteState) (active : Active) (f : ServiceFault)
    → RefusesGather history here s active f → IsOfCommit f
gather_told history here s active (fault.NotPledged number) r = tt
gather_told history here s active (fault.Site site.UnknownItem) r = tt
gather_told history here s active (fault.Site site.Ended) r = tt
gather_told history here s active (fault.Site site.PledgeOpen) r = tt
gather_told history here s active (fault.Site site.DraftDiffers) r = tt
gather_told history here s active (fault.Site site.Memory) r = absurd (r.2 refl)
gather_told history here s active (fault.Site _) r = absurd r.1
gather_told history here s active fault.Memory r = tt
gather_told history here s active _ r = absurd r

-- ---- what the certifier refuses

begin_by : (s : State) (f : CertifierFault) → IsTold s begin f → IsOfBegin (of_certifier f)
begin_by s certifier.WindowFull t = tt
begin_by s (certifier.StepOpen tx) t = tt
begin_by s certifier.NumbersSpent t = tt
begin_by s certifier.Memory t = tt
begin_by s _ t = absurd t.0

pub begin_told : (lost : Option ℕ) (s : State) (f : ServiceFault) → IsRefusedBy lost s begin f → IsOfBegin f
begin_told (Some l) s f r = subst IsOfBegin (sym r) tt
begin_told None s f r = subst IsOfBegin (sym r.2) (begin_by s r.0 r.1)

expect_by : (s : State) (h : Handle) (f : CertifierFault) → IsTold s (expect h) f → IsOfCommit (of_certifier f)
expect_by s h certifier.Unknown t = tt
expect_by s h (certifier.StepOpen tx) t = tt
expect_by s h certifier.Memory t = tt
expect_by s h _ t = absurd t.0

withdraw_by : (s : State) (h : Handle) (f : CertifierFault) → IsTold s (withdraw h) f → IsOfWithdraw (of_certifier f)
withdraw_by s h certifier.Unknown t = tt
withdraw_by s h (certifier.StepOpen tx) t = tt
withdraw_by s h certifier.Memory t = tt
withdraw_by s h _ t = absurd t.0

decide_by : (s : State) (h : Handle) (edges : List Edge) (f : CertifierFault) → IsTold s (decide h edges) f
    → IsOfCommit (of_certifier f)
decide_by s h edges certifier.Unknown t = tt
decide_by s h edges (certifier.StepOpen tx) t = tt
decide_by s h edges certifier.Stale t = tt
decide_by s h edges certifier.Memory t = tt
decide_by s h edges _ t = absurd t.0

active_withdraw : (lost : Option ℕ) (s : State) (active : Active) (f : ServiceFault) → RefusesActive lost s active f
    → IsOfWithdraw f
active_withdraw (Some l) s active f r = subst IsOfWithdraw (sym r) tt
active_withdraw None s active f r = subst IsOfWithdraw (sym r.0) tt

active_commit : (lost : Option ℕ) (s : State) (active : Active) (f : ServiceFault) → RefusesActive lost s active f
    → IsOfCommit f
active_commit (Some l) s active f r = subst IsOfCommit (sym r) tt
active_commit None s active f r = subst IsOfCommit (sym r.0) tt

-- ---- the whole step

pub commit_told : (sites : ℕ) (lost : Option ℕ) (k : Kept) (active : Active) (f : ServiceFault)
    → IsUncommitted sites lost k active f → IsOfCommit f
commit_told sites lost k active f (at_first g r) = active_commit lost k.state active g r
commit_told sites lost k active f (unexpected g held r) =
    subst IsOfCommit (sym r.2) (expect_by k.state active.handle r.0 r.1)
commit_told sites lost k active f (beyond here held allowed past touches) = tt
commit_told sites lost k active f (ungathered g may r) = gather_told k.history r.0 r.1 active g r.5
commit_told sites lost k active f (undecided edges g may e r) =
    subst IsOfCommit (sym r.2) (decide_by k.state active.handle edges r.0 r.1)

pub withdraw_told : (sites : ℕ) (lost : Option ℕ) (k : Kept) (active : Active) (f : ServiceFault)
    → IsNotWithdrawn sites lost k active f → IsOfWithdraw f
withdraw_told sites lost k active f (held_back g r) = active_withdraw lost k.state active g r
withdraw_told sites lost k active f (absent here held past touches) = tt
withdraw_told sites lost k active f (unpledged g held there r) = pledge_at_told r.0 r.1 active g r.5
withdraw_told sites lost k active f (declined g held there r) =
    subst IsOfWithdraw (sym r.2) (withdraw_by k.state active.handle r.0 r.1)

-- ---- each is a fault of some call

pub commit_of_call : (f : ServiceFault) → IsOfCommit f → IsOfCall f
commit_of_call f h = inr (inr (inr (inl h)))

pub withdraw_of_call : (f : ServiceFault) → IsOfWithdraw f → IsOfCall f
withdraw_of_call f h = inr (inr (inr (inr h)))
