-- Entries that stand against the ranks of their transactions.
use Rattle.std.specs.Prelude.{◌≡◌, ◌≢◌, ◌≤◌, ℕ, List, All, Some, slice_get, take}
use Rattle.sgt_names.specs.Name.{Name}
use Rattle.sgt_names.specs.Entry.{Clash, tx_of}
use Rattle.sgt_names.specs.declared.entry.Entry.{Entry}
use Rattle.sgt_names.specs.declared.entry.Kind.{Kind}
use Rattle.sgt_bundle.specs.Certificate.{IsCommitted}
use Rattle.sgt_bundle.specs.Valid.{RiseInRank}
use Rattle.sgt_bundle.specs.declared.certificate.Decision.{Decision}
use Rattle.sgt_explain_lines.specs.declared.section.Logged.{Logged}
use Rattle.sgt_explain_decisions.specs.declared.order.Ranked.{Ranked}
use Rattle.sgt_explain_decisions.specs.declared.order.RanksShown.{RanksShown}

-- two entries in conflict of this kind on the item, of two transactions, of which the first has no smaller rank
pub record StandAgainst (first second : Ranked) (kind : Kind) (item : Name) : Type 0 where
  pub clash : Clash kind item first.logged.entry second.logged.entry
  pub apart : tx_of first.logged.entry ≢ tx_of second.logged.entry
  pub falls : second.rank ≤ first.rank

-- this entry of the site k is shown against the other, with the rank of its transaction
pub record IsAgainst (decisions : List Decision) (k : ℕ) (one : Logged) (second : Ranked) (s : RanksShown) : Type 0
  where
    pub site : s.site ≡ k
    pub own : s.first.logged ≡ one
    pub other : s.second ≡ second
    pub committed : IsCommitted decisions s.first.number (tx_of s.first.logged.entry) s.first.rank
    pub stand : StandAgainst s.first s.second s.kind s.item

-- one of these entries, before which each rises in rank to this one
pub record IsFirstAgainst (decisions : List Decision) (entries : List Logged) (one : Logged) (e : Entry) : Type 0 where
  pub place : ℕ
  pub there : slice_get entries place ≡ Some one
  pub before : All (λ l. RiseInRank decisions l.entry e) (take place entries)
