-- When a site refuses: the cases exclude each other, and memory is answered only where no other
-- refusal holds.
use Rattle.std.specs.Prelude.{◌≡◌, ◌≢◌, ℕ, List, None, All, Contains}
use Rattle.sgt_names.specs.Name.{Name}
use Rattle.sgt_names.specs.Log.{names}
use Rattle.sgt_names.specs.Draft.{at_site, kept_in, writing_in}
use Rattle.sgt_names.specs.declared.draft.Touch.{Touch}
use Rattle.sgt_names.specs.declared.entry.Holding.{Holding}
use Rattle.sgt_site.specs.State.{SiteState, AreItems, HasRead, HasEnded, KeepsReads, IsPledged}
use Rattle.sgt_site.specs.declared.fault.SiteFault.{SiteFault}
use Rattle.sgt_site.specs.declared.fault.SiteFault.TheVariants.{UnknownItem, ReadTwice, Ended, Memory, BadItems, PledgeOpen, DraftDiffers}

-- `new`
abbrev pub RefusesItems : List Holding → SiteFault → Type 0
RefusesItems items BadItems = AreItems items → ⊥
RefusesItems items Memory = AreItems items
RefusesItems items _ = ⊥

-- the item is one of the site's
abbrev pub IsHere : SiteState → Name → Type 0
IsHere s x = Contains (names s.items) x

-- the transaction may read the item for the first time; it is also active
abbrev pub IsUnread : SiteState → ℕ → Name → Type 0
IsUnread s tx x = IsHere s x × (HasRead s.entries tx x → ⊥)

abbrev pub IsReadable : SiteState → ℕ → Name → Type 0
IsReadable s tx x = IsUnread s tx x × (HasEnded s.entries tx → ⊥)

-- a read that is not refused
pub record MayRead (s : SiteState) (tx : ℕ) (x : Name) : Type 0 where
  pub known : IsHere s x
  pub first : HasRead s.entries tx x → ⊥
  pub active : HasEnded s.entries tx → ⊥
  pub free : IsPledged s tx → ⊥

-- `read`
abbrev pub RefusesRead : SiteState → ℕ → Name → SiteFault → Type 0
RefusesRead s tx x UnknownItem = IsHere s x → ⊥
RefusesRead s tx x ReadTwice = IsHere s x × HasRead s.entries tx x
RefusesRead s tx x Ended = IsUnread s tx x × HasEnded s.entries tx
RefusesRead s tx x PledgeOpen = IsReadable s tx x × IsPledged s tx
RefusesRead s tx x Memory = MayRead s tx x
RefusesRead s tx x _ = ⊥

-- the draft changes items of the site alone
abbrev pub ChangesKnown : SiteState → List Touch → Type 0
ChangesKnown s touched = All (λ c. IsHere s c.0) (writing_in (at_site s.number touched))

-- its reads here are the transaction's in the log
abbrev pub IsSame : SiteState → ℕ → List Touch → Type 0
IsSame s tx touched = KeepsReads s.entries tx (kept_in (at_site s.number touched))

-- a draft that changes items of the site alone, for a transaction that is active; no pledge stands
-- either
abbrev pub IsTaken : SiteState → ℕ → List Touch → Type 0
IsTaken s tx touched = ChangesKnown s touched × (HasEnded s.entries tx → ⊥)

abbrev pub IsFree : SiteState → ℕ → List Touch → Type 0
IsFree s tx touched = IsTaken s tx touched × (s.pledge ≡ None)

-- a pledge that is not refused
pub record MayPledge (s : SiteState) (tx : ℕ) (touched : List Touch) : Type 0 where
  pub known : ChangesKnown s touched
  pub active : HasEnded s.entries tx → ⊥
  pub free : s.pledge ≡ None
  pub same : IsSame s tx touched

-- `pledge`
abbrev pub RefusesPledge : SiteState → ℕ → List Touch → SiteFault → Type 0
RefusesPledge s tx touched UnknownItem = ChangesKnown s touched → ⊥
RefusesPledge s tx touched Ended = ChangesKnown s touched × HasEnded s.entries tx
RefusesPledge s tx touched PledgeOpen = IsTaken s tx touched × (s.pledge ≢ None)
RefusesPledge s tx touched DraftDiffers = IsFree s tx touched × (IsSame s tx touched → ⊥)
RefusesPledge s tx touched Memory = MayPledge s tx touched
RefusesPledge s tx touched _ = ⊥
