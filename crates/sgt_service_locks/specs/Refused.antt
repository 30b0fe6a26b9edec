-- When the calls of a service are refused.
use Rattle.std.specs.Prelude.{◌≡◌, ◌≢◌, ◌⊎◌, ℕ, List, All, Contains, Option, Some, None, slice_get}
use Rattle.std.specs.Ordering.{nat_cmp}
use Rattle.std.specs.Cmp.Lexicographic.{slice_cmp}
use Rattle.sgt_names.specs.Name.{Name}
use Rattle.sgt_names.specs.Ordered.{IsRisingBy}
use Rattle.sgt_names.specs.declared.draft.Touch.{Touch}
use Rattle.sgt_names.specs.declared.entry.Holding.{Holding}
use Rattle.sgt_site.specs.State.{SiteState, AreItems, IsSite}
use Rattle.sgt_site.specs.Refused.{RefusesRead}
use Rattle.sgt_site.specs.declared.fault.SiteFault.{SiteFault}
use Rattle.sgt_site.specs.declared.fault.SiteFault.TheVariants as site
use Rattle.sgt_certifier.specs.Certifier.{State}
use Rattle.sgt_certifier.specs.History.{Replays, Request}
use Rattle.sgt_certifier.specs.Kept.{IsTold, Kept}
use Rattle.sgt_certifier.specs.declared.call.CertifierFault.{CertifierFault}
use Rattle.sgt_certifier.specs.declared.call.CertifierFault.TheVariants as certifier
use Rattle.sgt_service_agreement.specs.Fault.{of_site, of_certifier}
use Rattle.sgt_service_agreement.specs.declared.fault.ServiceFault.{ServiceFault}
use Rattle.sgt_service_agreement.specs.declared.fault.ServiceFault.TheVariants.{Memory, Site, Certifier, NotPledged}
use Rattle.sgt_service_locks.specs.Reads.{look_in}

-- the certifier refuses the request, and its fault is handed on
abbrev pub HandsOn : State → Request → ServiceFault → Type 0
HandsOn s request f = (told : CertifierFault) × IsTold s request told × (f ≡ of_certifier told)

-- the request is refused: by the site that has lost its pledge before all else
abbrev pub IsRefusedBy : Option ℕ → State → Request → ServiceFault → Type 0
IsRefusedBy (Some lost) s request f = f ≡ NotPledged lost
IsRefusedBy None s request f = HandsOn s request f

-- so it is refused by some certifier, whose state is the replay of its history, with some site
-- found to have lost its pledge or none
abbrev pub IsToldOf : Request → ServiceFault → Type 0
IsToldOf request f = (lost : Option ℕ)
    × ((k : Kept) × Replays k.history k.state × IsRefusedBy lost k.state request f)

-- the names of a site's items rise by their bytes
abbrev pub NamesRise : List Name → Type 0
NamesRise = IsRisingBy (λ x. x) (slice_cmp nat_cmp)

-- the site has an item of this name
abbrev pub HasItem : List (List Name) → ℕ → Name → Type 0
HasItem names s x = (here : List Name) × (slice_get names s ≡ Some here) × Contains here x

-- a change of an item that is refused: it isn't there, or memory is wanted
abbrev pub RefusesItem : List (List Name) → ℕ → Name → ServiceFault → Type 0
RefusesItem names s x (Site site.UnknownItem) = HasItem names s x → ⊥
RefusesItem names s x Memory = HasItem names s x
RefusesItem names s x _ = ⊥

-- sites that can't be opened: one has names that don't rise, or too many; or memory is wanted
abbrev pub RefusesSites : List (List Holding) → ServiceFault → Type 0
RefusesSites sites (Site site.BadItems) = All AreItems sites → ⊥
RefusesSites sites Memory = All AreItems sites
RefusesSites sites _ = ⊥

-- what a begin may be refused for, and a change of an item
abbrev pub IsOfBegin : ServiceFault → Type 0
IsOfBegin (Certifier certifier.WindowFull) = Unit {0}
IsOfBegin (Certifier (certifier.StepOpen tx)) = Unit {0}
IsOfBegin (Certifier certifier.NumbersSpent) = Unit {0}
IsOfBegin (NotPledged site) = Unit {0}
IsOfBegin Memory = Unit {0}
IsOfBegin _ = ⊥

abbrev pub IsOfChange : ServiceFault → Type 0
IsOfChange (Site site.UnknownItem) = Unit {0}
IsOfChange Memory = Unit {0}
IsOfChange _ = ⊥

-- a read there that is refused: another site stands at the place, or the site of this number
-- refuses it
abbrev pub IsToldOfRead : ℕ → SiteState → ℕ → Name → ServiceFault → Type 0
IsToldOfRead here s tx x f =
    ((s.number ≢ here) × (f ≡ Site site.UnknownItem))
    ⊎ ((s.number ≡ here) × ((told : SiteFault) × RefusesRead s tx x told × (f ≡ of_site told)))

-- a read that is refused, of a transaction with this draft, which doesn't show the item: the item isn't
-- there; or it is, and memory is wanted for the draft, or some site refuses it
abbrev pub RefusesReadAt : List (List Name) → (tx : ℕ) → List Touch → ℕ → Name → ServiceFault → Type 0
RefusesReadAt names tx touched here x f =
    (look_in touched here x ≡ None)
    × (((HasItem names here x → ⊥) × (f ≡ Site site.UnknownItem))
    ⊎ (HasItem names here x
    × ((f ≡ Memory) ⊎ ((s : SiteState) × IsSite s × IsToldOfRead here s tx x f))))

-- what a site may refuse a read for, and a pledge
abbrev pub IsOfRead : ServiceFault → Type 0
IsOfRead (Site site.UnknownItem) = Unit {0}
IsOfRead (Site site.ReadTwice) = Unit {0}
IsOfRead (Site site.Ended) = Unit {0}
IsOfRead (Site site.PledgeOpen) = Unit {0}
IsOfRead Memory = Unit {0}
IsOfRead _ = ⊥

abbrev pub IsOfPledge : ServiceFault → Type 0
IsOfPledge (Site site.UnknownItem) = Unit {0}
IsOfPledge (Site site.Ended) = Unit {0}
IsOfPledge (Site site.PledgeOpen) = Unit {0}
IsOfPledge (Site site.DraftDiffers) = Unit {0}
IsOfPledge Memory = Unit {0}
IsOfPledge _ = ⊥

-- what a withdrawal may be refused for, and a commit
abbrev pub IsOfWithdraw : ServiceFault → Type 0
IsOfWithdraw (Certifier certifier.Unknown) = Unit {0}
IsOfWithdraw (Certifier (certifier.StepOpen tx)) = Unit {0}
IsOfWithdraw (NotPledged site) = Unit {0}
IsOfWithdraw f = IsOfPledge f

abbrev pub IsOfCommit : ServiceFault → Type 0
IsOfCommit (Certifier certifier.Stale) = Unit {0}
IsOfCommit f = IsOfWithdraw f

-- what any call of a transaction may be refused for: its begin, a read, a change, its commit or its
-- withdrawal
abbrev pub IsOfCall : ServiceFault → Type 0
IsOfCall f = IsOfBegin f ⊎ (IsOfRead f ⊎ (IsOfChange f ⊎ (IsOfCommit f ⊎ IsOfWithdraw f)))
