-- The logs of the sites against an index of the history.
use Rattle.std.specs.Prelude.{◌≡◌, ◌≤◌, ℕ, List, Option, Contains, Some, Vec, slice_get}
use Rattle.std.specs.declared.alloc.Global.{Global}
use Rattle.sgt_names.specs.declared.entry.Entry.{Entry}
use Rattle.sgt_site.specs.State.{SiteState}
use Rattle.sgt_service_settle.specs.Settled.{AreEntriesCounted}
use Rattle.sgt_service_agreement.specs.declared.counts.EntryCounts.{EntryCounts}
use Rattle.sgt_service_settle.specs.declared.handed.Handed.{Handed}
use Rattle.sgt_service_settle.specs.declared.index.Index.{Index}
use Rattle.sgt_service_settle.specs.private.Words.{IsLeastOf}
use Rattle.sgt_service_settle.specs.private.Index.{IsHandedIn, IsLoggedBy, AreCarried}

-- each of these edges is a conflict of the log
abbrev pub AreLogged : List (Vec ℕ Global) → List Handed → List Entry → Type 0
AreLogged windows edges log = (h : Handed) → Contains edges h → IsLoggedBy windows log h.edge

-- the conflicts of the site's log are those that the decisions were handed
pub record AreConflictsHanded (index : Index) (site : ℕ) (log : List Entry) : Type 0 where
  pub edges : (h : Handed) → IsHandedIn index h → h.edge.label.site ≡ site
      → IsLoggedBy index.windows.items log h.edge
  pub conflicts : AreCarried index site log

-- so they are, and the log has the counted entries
pub record IsLogFit (index : Index) (site : ℕ) (counts : EntryCounts) (log : List Entry) : Type 0 where
  pub counted : AreEntriesCounted counts log
  pub handed : AreConflictsHanded index site log

-- it is the site of this number, with such a log
abbrev pub IsSiteFit : Index → ℕ → EntryCounts → SiteState → Type 0
IsSiteFit index site counts s = (s.number ≡ site) × IsLogFit index site counts s.entries

abbrev pub IsFitAt : Index → List SiteState → List EntryCounts → ℕ → Type 0
IsFitAt index sites counts k =
    (s : SiteState) (c : EntryCounts) → slice_get sites k ≡ Some s → slice_get counts k ≡ Some c
    → IsSiteFit index k c s

-- the number is the least of a site of these edges that isn't among so many; None where there is none
abbrev pub IsLeastBeyond : ℕ → List Handed → Option ℕ → Type 0
IsLeastBeyond sites handed least = IsLeastOf (λ (h : Handed). h.edge.label.site)
    (λ (h : Handed). sites ≤ h.edge.label.site) handed least
