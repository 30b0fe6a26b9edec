-- What lies under the certifier's lock.
use Rattle.std.specs.Prelude.{◌≡◌, ◌≤◌, ◌⊎◌, ◌++◌, ◌∷◌, [], ℕ, zero, suc, List, length, All, Any, None}
use Rattle.sgt_names.specs.declared.draft.Touch.{Touch}
use Rattle.sgt_names.specs.Draft.{at_site}
use Rattle.sgt_edges.specs.declared.edge.Edge.{Edge}
use Rattle.sgt_edges.specs.Edges.{IsGiven, StandsForAll}
use Rattle.sgt_site.specs.State.{SiteState, IsSite, IsPledgedFor}
use Rattle.sgt_step.specs.OneSite.{ended_by}
use Rattle.sgt_step.specs.declared.one_site.Ending.{Ending as SiteEnding}
use Rattle.sgt_step.specs.declared.one_site.Ending.TheVariants as at
use Rattle.sgt_certifier.specs.Certifier.{State, ruled}
use Rattle.sgt_certifier.specs.History.{IsNoted, IsInstalling, Replays, Serves, tx_under}
use Rattle.sgt_certifier.specs.Kept.{Kept, Adds, IsExpected, changed_at}
use Rattle.sgt_certifier.specs.declared.call.Call.{Call}
use Rattle.sgt_certifier.specs.declared.call.Call.TheVariants as call
use Rattle.sgt_certifier.specs.declared.call.Decided.{Decided}
use Rattle.sgt_certifier.specs.declared.call.Decided.TheVariants as decided
use Rattle.sgt_service_agreement.specs.Agreed.{VersionsAgree}
use Rattle.sgt_workers.specs.declared.ticket.Ticket.{Ticket}
use Rattle.sgt_workers.specs.declared.ticket.Ending.{Ending}
use Rattle.sgt_workers.specs.declared.ticket.Ending.TheVariants as ending
use Rattle.sgt_service_locks.specs.declared.active.Active.{Active}

-- how many decisions the certifier has taken
abbrev pub decision_count : Kept → ℕ
decision_count certifier = length certifier.state.rulings

-- the transaction is decided
abbrev pub IsDecided : State → ℕ → Type 0
IsDecided s tx = Any (λ r. ruled r ≡ tx) s.rulings

-- what a transaction's caller is told of its decision
abbrev pub ticket_of : ℕ → Decided → Ticket
ticket_of tx (decided.Committed number) =
    record { number = number; tx = tx; verdict = ending.Committed }
ticket_of tx (decided.Refused number walk) =
    record { number = number; tx = tx; verdict = ending.Refused }

-- a certifier whose state is the replay of its history has served the call: the history has gained
-- it, and the state is as this call
-- with this reply leaves it
abbrev pub HasAdded : Call → Type 0
HasAdded c = (before : Kept) × (after : Kept) × Replays before.history before.state
    × Adds before c after

-- the transaction is committed, and its installs from this site on can be noted without memory
pub record AwaitsInstalls (certifier : Kept) (tx : ℕ) (touched : List Touch) (from : ℕ) : Type 0 where
  pub installing : IsInstalling certifier.state tx
  pub unnoted : (site : ℕ) → from ≤ site → IsNoted certifier.state tx site → ⊥
  pub expected : (site : ℕ) → from ≤ site → IsExpected certifier.expected touched site

-- how a transaction that was decided so ends at a site
abbrev pub ending_of : Ending → SiteEnding
ending_of ending.Committed = at.Committed
ending_of ending.Refused = at.Refused
ending_of ending.Withdrawn = at.Withdrawn

-- the site has gained the block of a transaction that was decided so, under its pledge
abbrev pub IsEnded : Ending → Active → SiteState → SiteState → Type 0
IsEnded verdict active old new =
    new ≡ ended_by (ending_of verdict) active.tx active.handle active.draft.touched old

-- the call that notes the install at a site, of a transaction that touches these items there
abbrev pub install_of : ℕ → ℕ → List Touch → List Touch → List Call
install_of tx site touched [] = []
install_of tx site touched (t ∷ ts) = call.Installed tx site (changed_at touched site) ∷ []

-- what the history notes of a transaction that was decided so, at a site: a commit its install, if
-- it touches the site
abbrev pub notes_at : Ending → Active → ℕ → List Call
notes_at ending.Committed active site =
    install_of active.tx site active.draft.touched (at_site site active.draft.touched)
notes_at _ active site = []

-- and at the sites below one, by number
abbrev pub notes_below : Ending → Active → ℕ → List Call
notes_below verdict active zero = []
notes_below verdict active (suc site) =
    notes_below verdict active site ++ notes_at verdict active site

-- what one gathering for a transaction handed over: the site of this number, with the versions that
-- the history counts, stood under the
-- transaction's pledge for its draft; the edges are the draft's there, and stand for all of them
pub record IsGathered (history : List Call) (active : Active) (site : ℕ) (s : SiteState) (edges : List Edge) : Type 0
  where
    pub here : s.number ≡ site
    pub kept : IsSite s
    pub agreed : VersionsAgree history s
    pub pledged : IsPledgedFor s active.tx active.draft.touched
    pub given : All (IsGiven s active.draft.touched active.handle) edges
    pub stands : StandsForAll s active.draft.touched active.handle edges

-- what was gathered at a site for a transaction that touches these items there: nothing, where it
-- touches none
abbrev pub IsGatheredAt : List Call → Active → ℕ → List Touch → List Edge → Type 0
IsGatheredAt history active site [] edges = edges ≡ []
IsGatheredAt history active site (t ∷ ts) edges = (s : SiteState)
    × IsGathered history active site s edges

-- and at the sites below one, by number
abbrev pub IsGatheredBelow : List Call → Active → ℕ → List Edge → Type 0
IsGatheredBelow history active zero edges = edges ≡ []
IsGatheredBelow history active (suc site) edges =
    (before : List Edge) × (here : List Edge) × (edges ≡ before ++ here)
    × IsGatheredBelow history active site before
    × IsGatheredAt history active site (at_site site active.draft.touched) here

-- the step of a transaction at a certifier with so many sites, whose state is the replay of its
-- history, and which has the transaction's
-- number under its handle: its decision on the edges that were gathered at those that it touches,
-- its installs, and the step's end
pub record TakesStep (sites : ℕ) (active : Active) (t : Ticket) (old new : Kept) : Type 0 where
  pub replays : Replays old.history old.state
  pub named : tx_under old.state active.handle ≡ active.tx
  pub within : (site : ℕ) → sites ≤ site → at_site site active.draft.touched ≡ []
  pub edges : List Edge
  pub gathered : IsGatheredBelow old.history active sites edges
  pub reply : Decided
  pub decided : State
  pub serves : Serves old.state (call.Decide active.handle edges reply) decided
  pub ticket : t ≡ ticket_of active.tx reply
  pub number : t.number ≡ decision_count old
  pub history : new.history
      ≡ old.history ++ call.Decide active.handle edges reply
      ∷ (notes_below t.verdict active sites ++ call.Finish active.tx ∷ [])
  pub closed : new.state.step ≡ None

-- the withdrawal of a transaction
pub record TakesBack (active : Active) (t : Ticket) (old new : Kept) : Type 0 where
  pub replays : Replays old.history old.state
  pub named : tx_under old.state active.handle ≡ active.tx
  pub decided : State
  pub serves : Serves old.state (call.Withdraw active.handle (decision_count old)) decided
  pub ticket : t
      ≡ record { number = decision_count old; tx = active.tx; verdict = ending.Withdrawn }
  pub history : new.history ≡ old.history ++ call.Withdraw active.handle (decision_count old) ∷ []

-- the ticket is of the step by which a certifier with so many sites decided the transaction, on
-- what its draft touches; or of its
-- withdrawal
abbrev pub IsDecidedBy : ℕ → Active → Ticket → Type 0
IsDecidedBy sites active t = (old : Kept) × (new : Kept) × TakesStep sites active t old new

abbrev pub IsWithdrawnBy : Active → Ticket → Type 0
IsWithdrawnBy active t = (old : Kept) × (new : Kept) × TakesBack active t old new

-- the ticket is of the end of the transaction
abbrev pub IsTicketOf : ℕ → Active → Ticket → Type 0
IsTicketOf sites active t = IsDecidedBy sites active t ⊎ IsWithdrawnBy active t
