-- Pairs of entries of a log, and how they lead from a transaction to another.
use Rattle.std.specs.Prelude.{◌≡◌, ◌≢◌, ℕ, ◌<◌, List, Some, slice_get, All, Contains}
use Rattle.sgt_names.specs.Name.{Name}
use Rattle.sgt_names.specs.Entry.{tx_of, Clash, IsEnd}
use Rattle.sgt_names.specs.declared.entry.Entry.{Entry}
use Rattle.sgt_names.specs.declared.entry.Kind.{Kind}
use Rattle.sgt_bundle.specs.declared.bundle.SiteLog.{SiteLog}
use Rattle.sgt_certify_greedy.specs.declared.pairs.Pair.{Pair}
use Rattle.sgt_certify_greedy.specs.declared.pairs.Rule.{Rule}
use Rattle.sgt_certify_greedy.specs.declared.pairs.Rule.TheVariants.{Ends, Conflicts}

-- two entries, one in front of the other, make a pair: both are ends, or they are in conflict
abbrev pub ArePaired : Rule → Entry → Entry → Type 0
ArePaired Ends e f = IsEnd e × IsEnd f
ArePaired Conflicts e f = (tx_of e ≢ tx_of f) × ((kind : Kind) × (x : Name) × Clash kind x e f)

-- the logs have the pair
pub record IsPair (rule : Rule) (sites : List SiteLog) (pair : Pair) : Type 0 where
  pub log : SiteLog
  pub e : Entry
  pub f : Entry
  pub here : slice_get sites pair.site ≡ Some log
  pub before : pair.first < pair.second
  pub first : slice_get log.entries pair.first ≡ Some e
  pub second : slice_get log.entries pair.second ≡ Some f
  pub from : tx_of e ≡ pair.from
  pub to : tx_of f ≡ pair.to
  pub paired : ArePaired rule e f

-- one of the pairs leads from a to b
abbrev pub Leads : List Pair → ℕ → ℕ → Type 0
Leads pairs a b = (pair : Pair) × Contains pairs pair × (pair.from ≡ a) × (pair.to ≡ b)

-- a pair that the logs have leads from a to b
abbrev pub IsFollowed : Rule → List SiteLog → ℕ → ℕ → Type 0
IsFollowed rule sites a b = (pair : Pair) × IsPair rule sites pair × (pair.from ≡ a) × (pair.to ≡ b)

-- among those found are all pairs of the log at this site of which the second entry is at this
-- place
abbrev pub HasPairsTo : Rule → List SiteLog → List Pair → (site q : ℕ) → Type 0
HasPairsTo rule sites found site q = (p : ℕ) (log : SiteLog) (e f : Entry) → p < q
    → slice_get sites site ≡ Some log
    → slice_get log.entries p ≡ Some e → slice_get log.entries q ≡ Some f → ArePaired rule e f
    → Leads found (tx_of e) (tx_of f)

-- these are the pairs that the logs have
pub record ArePairsOf (rule : Rule) (sites : List SiteLog) (pairs : List Pair) : Type 0 where
  pub only : All (IsPair rule sites) pairs
  pub has : (a b : ℕ) → IsFollowed rule sites a b → Leads pairs a b
