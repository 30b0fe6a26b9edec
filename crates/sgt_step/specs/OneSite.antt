-- What a transaction's step leaves at one site.
use Rattle.std.specs.Prelude.{ℕ, List, [], ◌∷◌, ◌++◌, All, None}
use Rattle.sgt_names.specs.Name.{Name}
use Rattle.sgt_names.specs.Draft.{at_site, writing_in}
use Rattle.sgt_names.specs.declared.draft.Touch.{Touch}
use Rattle.sgt_names.specs.declared.entry.Change.{Change}
use Rattle.sgt_names.specs.declared.entry.Entry.{Entry}
use Rattle.sgt_arena.specs.declared.handle.Handle.{Handle}
use Rattle.sgt_site.specs.State.{SiteState, IsSite, IsPledged, IsPledgedFor, commit_block, refuse_block, withdraw_block}
use Rattle.sgt_site.specs.declared.cell.Install.{Install}
use Rattle.sgt_edges.specs.Edges.{IsGiven, StandsForAll, HaveOwnHandles, AreApart}
use Rattle.sgt_edges.specs.declared.edge.Edge.{Edge}
use Rattle.sgt_step.specs.declared.one_site.Ending.{Ending}
use Rattle.sgt_step.specs.declared.one_site.Ending.TheVariants.{Committed, Refused, Withdrawn}

-- edges of the draft at the site, under this handle: they stand for all of them there, and no two
-- are the same
pub record AreEdgesOf (s : SiteState) (touched : List Touch) (me : Handle) (edges : List Edge) : Type 0 where
  pub legal : IsSite s
  pub given : All (IsGiven s touched me) edges
  pub stand : StandsForAll s touched me edges
  pub once : HaveOwnHandles s → AreApart edges

-- the block that ends a transaction so, with these changes
abbrev pub block_of : Ending → ℕ → List (Name × Change) → List Entry
block_of Committed tx changes = commit_block tx changes
block_of Refused tx changes = refuse_block tx changes
block_of Withdrawn tx changes = withdraw_block tx

-- the transactions that are committed at its site behind it
abbrev pub installed_by : Ending → List Install → Install → List Install
installed_by Committed installed i = installed ++ i ∷ []
installed_by Refused installed i = installed
installed_by Withdrawn installed i = installed

-- the site with the block of the transaction in the place of its pledge
abbrev pub ended_by : Ending → ℕ → Handle → List Touch → SiteState → SiteState
ended_by ending tx handle touched s = record s {
  entries = s.entries ++ block_of ending tx (writing_in (at_site s.number touched));
  installed = installed_by ending s.installed (record { tx = tx; handle = handle });
  pledge = None;
}

-- the pledge under which a transaction ends so: one for this draft, or, where it is withdrawn, for
-- whichever
abbrev pub IsPledgedTo : Ending → SiteState → ℕ → List Touch → Type 0
IsPledgedTo Committed s tx touched = IsPledgedFor s tx touched
IsPledgedTo Refused s tx touched = IsPledgedFor s tx touched
IsPledgedTo Withdrawn s tx touched = IsPledged s tx
