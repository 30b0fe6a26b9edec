-- Edges that are conflicts of a log.
use Rattle.std.specs.Prelude.{◌≡◌, ◌≢◌, ◌⊎◌, ℕ, List, Vec, Contains}
use Rattle.std.specs.declared.alloc.Global.{Global}
use Rattle.sgt_names.specs.Entry.{tx_of, Clash}
use Rattle.sgt_names.specs.Log.{Conflicts}
use Rattle.sgt_names.specs.declared.entry.Entry.{Entry}
use Rattle.sgt_names.specs.declared.entry.Holding.{Holding}
use Rattle.sgt_service_settle.specs.declared.handed.Handed.{Handed}
use Rattle.sgt_service_settle.specs.declared.index.Index.{Index}
use Rattle.sgt_service_settle.specs.declared.link.Link.{Link}
use Rattle.sgt_service_settle.specs.private.Words.{At, IsItemAt, Pushed}
use Rattle.sgt_service_settle.specs.private.Index.{IsHandedIn, IsLinkOf}

-- the entries are of the two transactions of the edge, and in a conflict of its kind
pub record AreEndsOf (e f : Entry) (l : Link) : Type 0 where
  pub apart : l.from ≢ l.to
  pub from : tx_of e ≡ l.from
  pub to : tx_of f ≡ l.to
  pub clash : Clash l.label.kind l.label.item e f

-- the edge is a conflict of the log with its label
abbrev pub IsShown : List Entry → Link → Type 0
IsShown log l = Conflicts log l.label.kind l.label.item l.from l.to

abbrev pub AreShown : List Entry → List (Vec Link Global) → Type 0
AreShown log rows = (at n : ℕ) (l : Link) → At rows at n l → IsShown log l

-- the edge stands in one of the rows
abbrev pub IsTied : Index → List (Vec Link Global) → Handed → Type 0
IsTied index rows h = (at : ℕ) × (n : ℕ) × (l : Link) × At rows at n l
    × IsLinkOf index.windows.items index.commits.items h l

-- the link was added to the row of its item, at this place
pub record IsAdded (items : List Holding) (l : Link) (old new : List (Vec Link Global)) (at : ℕ) : Type 0 where
  pub item : IsItemAt items l.label.item at
  pub pushed : Pushed old at l new

-- that of the edge was
pub record IsTieAdded (index : Index) (items : List Holding) (h : Handed) (old new : List (Vec Link Global))
    (at : ℕ) : Type 0 where
  pub link : Link
  pub is : IsLinkOf index.windows.items index.commits.items h link
  pub added : IsAdded items link old new at

-- each edge at the site stands in the rows or among the others, which are edges there
pub record AreTied (index : Index) (site : ℕ) (rows : List (Vec Link Global)) (others : List Handed) : Type 0 where
  pub each : (h : Handed) → IsHandedIn index h → h.edge.label.site ≡ site
      → IsTied index rows h ⊎ Contains others h
  pub some : (h : Handed) → Contains others h → IsHandedIn index h × (h.edge.label.site ≡ site)
