-- What a judge keeps: the state of the certifier, with its decisions, but of the installs only at
-- which sites those of the open step are noted.
use Rattle.std.specs.Prelude.{◌≡◌, ◌≢◌, ◌<◌, ◌≤◌, ◌+◌, [], ℕ, List, length, map, Bool, All, AllPairs, Option, Some, None}
use Rattle.sgt_names.specs.Limits.{max_sites}
use Rattle.sgt_certifier.specs.declared.ranking.Ruled.{Ruled}
use Rattle.sgt_certifier.specs.declared.ranking.Ruled.TheVariants as ruled_as
use Rattle.sgt_arena.specs.declared.handle.Handle.{Handle}
use Rattle.sgt_edges.specs.declared.edge.Edge.{Edge}
use Rattle.sgt_certifier.specs.declared.call.Call.TheVariants as call
use Rattle.sgt_certifier.specs.declared.call.Decided.{Decided}
use Rattle.sgt_certifier.specs.declared.call.CertifierFault.{CertifierFault}
use Rattle.sgt_certifier.specs.Certifier.{State, Install, Ruling, committed, refused, withdrawn, with_finished, with_install}
use Rattle.sgt_certifier.specs.History.{Request, IsAllowed, Serves, finish, installed}
use Rattle.sgt_certifier.specs.Kept.{IsTold, is_committed}
use Rattle.sgt_certifier.specs.Sound.{IsGoodState}

-- the decision that is kept
abbrev pub ruling_from : Ruled → Ruling
ruling_from (ruled_as.Committed tx) = committed tx
ruling_from (ruled_as.Refused tx walk) = refused tx walk
ruling_from (ruled_as.Withdrawn tx) = withdrawn tx

-- the install of the open step that is noted at a site, without its items
abbrev pub note_at : ℕ → ℕ → Install
note_at tx site = record { tx = tx; site = site; items = [] }

-- those of the open step
abbrev pub notes_of : Option ℕ → List ℕ → List Install
notes_of None sites = []
notes_of (Some tx) sites = map (note_at tx) sites

-- ---- what calls do

-- the request is refused with this fault, and nothing changes
pub record Denies (old : State) (request : Request) (f : CertifierFault) (new : State) : Type 0 where
  pub told : IsTold old request f
  pub same : new ≡ old

-- the open step ends, and its notes go
pub record Ends (old : State) (tx : ℕ) (new : State) : Type 0 where
  pub allowed : IsAllowed old (finish tx)
  pub after : new ≡ record (with_finished old tx) { installs = [] }

-- the install of the open step's transaction at the site is noted
pub record Notes (old : State) (tx site : ℕ) (new : State) : Type 0 where
  pub allowed : IsAllowed old (installed tx site)
  pub after : new ≡ with_install old tx site []

-- the transaction is decided with these edges, and told is whether it is committed
pub record Rules (old : State) (h : Handle) (edges : List Edge) (told : Bool) (new : State) : Type 0 where
  pub reply : Decided
  pub serves : Serves old (call.Decide h edges reply) new
  pub is : told ≡ is_committed reply

-- ---- what is always true of the parts

pub record IsJudged (s : State) (flags : List Bool) (noted : List ℕ) (node_count active_count room : ℕ) : Type 0 where
  pub good : IsGoodState s
  -- each node has a flag
  pub nodes : node_count ≡ length flags
  pub window : s.begun ≡ s.before + length flags
  pub running : active_count ≡ length s.active
  -- the sites that are noted in the open step, each once, and room for each
  pub closed : s.step ≡ None → noted ≡ []
  pub below : All (λ site. site < max_sites) noted
  pub once : AllPairs (λ a b. a ≢ b) noted
  pub spare : (t : ℕ) → s.step ≡ Some t → max_sites ≤ room
