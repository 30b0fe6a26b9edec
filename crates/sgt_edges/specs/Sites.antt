-- The edges of one draft at several sites.
use Rattle.std.specs.Prelude.{◌≡◌, ◌⊎◌, List, Any, All}
use Rattle.sgt_names.specs.Name.{Name}
use Rattle.sgt_names.specs.declared.draft.Touch.{Touch}
use Rattle.sgt_names.specs.declared.entry.Kind.{Kind}
use Rattle.sgt_arena.specs.declared.handle.Handle.{Handle}
use Rattle.sgt_site.specs.State.{SiteState}
use Rattle.sgt_edges.specs.declared.edge.Edge.{Edge}
use Rattle.sgt_edges.specs.Edges.{IsEdge, IsOldEdge, IsGiven, StandsForAll}

-- a site, and the edges that `gather` gave there
pub record Gathering : Type 0 where
  pub site : SiteState
  pub edges : List Edge

-- what `gather` promises of them
abbrev pub IsGathered : List Touch → Handle → Gathering → Type 0
IsGathered touched me g = All (IsGiven g.site touched me) g.edges
    × StandsForAll g.site touched me g.edges

-- a conflict between committed transactions in the log of one of the sites
abbrev pub IsLogged : List Gathering → Handle → Handle → Type 0
IsLogged gs from to = Any (λ g. (x : Name) × IsOldEdge g.site x from to) gs

-- a given edge of one of the sites, or such a conflict
abbrev pub IsGivenStep : List Gathering → Handle → Handle → Type 0
IsGivenStep gs from to = Any (λ g. Any (λ e. (e.from ≡ from) × (e.to ≡ to)) g.edges) gs
    ⊎ IsLogged gs from to

-- an edge of the draft at one of the sites, given or not, or such a conflict
abbrev pub IsStep : List Touch → Handle → List Gathering → Handle → Handle → Type 0
IsStep touched me gs from to =
    Any (λ g. (x : Name) × ((k : Kind) × IsEdge g.site touched me x from to k)) gs
    ⊎ IsLogged gs from to

-- a walk of one or more steps
pub data Leads (Step : Handle → Handle → Type 0) : Handle → Handle → Type 0 where
  step : (f t : Handle) → Step f t → Leads Step f t
  on : (f g t : Handle) → Leads Step f g → Leads Step g t → Leads Step f t
