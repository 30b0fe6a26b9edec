-- Orders of transactions in which ends, or committed conflicts, lead onward, so that there is no
-- cycle of these.
use Rattle.std.specs.Prelude.{◌≡◌, ℕ, ◌<◌, ◌≤◌, List, Some, slice_get, Contains}
use Rattle.std.specs.BTreeMap.{BTreeMap, get}
use Rattle.std.specs.Ordering.{nat_cmp}
use Rattle.std.specs.Cmp.Lexicographic.{slice_cmp}
use Rattle.sgt_names.specs.Name.{Name}
use Rattle.sgt_names.specs.Entry.{tx_of, IsEnd}
use Rattle.sgt_names.specs.Log.{Conflicts}
use Rattle.sgt_names.specs.declared.entry.Entry.{Entry}
use Rattle.sgt_names.specs.declared.entry.Entry.TheVariants.{Commit}
use Rattle.sgt_names.specs.declared.entry.Kind.{Kind}
use Rattle.sgt_bundle.specs.declared.bundle.SiteLog.{SiteLog}
use Rattle.sgt_certify_logs.specs.Witness.{EndsBefore, HasEnd, IsIn}
use Rattle.sgt_certify_stuck.specs.Apart.{Does}
use Rattle.sgt_certify_stuck.specs.declared.apart.Class.{Class}

-- ---- the order

-- the last place of the transaction in the order, counted from 0
abbrev pub IsLastPlace : List ℕ → ℕ → ℕ → Type 0
IsLastPlace order t i = (slice_get order i ≡ Some t)
    × ((j : ℕ) → i < j → slice_get order j ≡ Some t → ⊥)

-- the first stands before the second
abbrev pub ComesBefore : List ℕ → ℕ → ℕ → Type 0
ComesBefore order a b = (i j : ℕ) → IsLastPlace order a i → IsLastPlace order b j → i < j

-- the order has whoever ends, and who ends before another stands before it
pub record EndsFollow (sites : List SiteLog) (order : List ℕ) : Type 0 where
  pub all : (t : ℕ) → HasEnd sites t → Contains order t
  pub onward : (a b : ℕ) → EndsBefore sites a b → ComesBefore order a b

-- the order has whoever is committed, and of two of its transactions that are in conflict at an item
-- the first stands before the second
pub record ConflictsFollow (sites : List SiteLog) (order : List ℕ) : Type 0 where
  pub all : (t : ℕ) → IsIn sites (Commit t) → Contains order t
  pub onward : (log : SiteLog) → Contains sites log → (kind : Kind) (x : Name) (a b : ℕ)
      → Conflicts log.entries kind x a b → ComesBefore order a b

-- ---- its places, looked up

-- the transaction stands at this place of the order
abbrev pub StandsAt : BTreeMap ℕ ℕ → ℕ → ℕ → Type 0
StandsAt places tx place = get nat_cmp places tx ≡ Some place

-- no two stand at one place
abbrev pub StandApart : BTreeMap ℕ ℕ → Type 0
StandApart places = (a b place : ℕ) → StandsAt places a place → StandsAt places b place → a ≡ b

-- these are the places of the order
pub record ArePlacesOf (order : List ℕ) (places : BTreeMap ℕ ℕ) : Type 0 where
  pub last : (t i : ℕ) → StandsAt places t i → IsLastPlace order t i
  pub all : (t : ℕ) → Contains order t → (i : ℕ) × StandsAt places t i

-- the first stands before the second
abbrev pub StandsBefore : BTreeMap ℕ ℕ → ℕ → ℕ → Type 0
StandsBefore places a b = (i : ℕ) × (j : ℕ) × StandsAt places a i × StandsAt places b j × (i < j)

-- of two ends of the log, the first one's transaction stands before the second one's
abbrev pub EndsLeadOnward : List Entry → BTreeMap ℕ ℕ → Type 0
EndsLeadOnward entries places = (p q : ℕ) (e f : Entry) → p < q
    → slice_get entries p ≡ Some e → slice_get entries q ≡ Some f
    → IsEnd e → IsEnd f → StandsBefore places (tx_of e) (tx_of f)

-- whoever ends in the log has a place
abbrev pub EndsStand : List Entry → BTreeMap ℕ ℕ → Type 0
EndsStand entries places = (p : ℕ) (e : Entry) → slice_get entries p ≡ Some e → IsEnd e
    → (i : ℕ) × StandsAt places (tx_of e) i

-- where an entry that does the first to an item stands in front of one that does the second to it, its
-- transaction doesn't stand behind the other one's
abbrev pub PairLeadsOnward : List Entry → BTreeMap ℕ ℕ → (first second : Class) → Type 0
PairLeadsOnward entries places first second = (p q : ℕ) (e f : Entry) (x : Name) (i j : ℕ) → p < q
    → slice_get entries p ≡ Some e → slice_get entries q ≡ Some f
    → StandsAt places (tx_of e) i → StandsAt places (tx_of f) j → Does first x e → Does second x f → i ≤ j

-- nor does it where two entries are in conflict
abbrev pub ConflictsLeadOnward : List Entry → BTreeMap ℕ ℕ → Type 0
ConflictsLeadOnward entries places = (kind : Kind) (x : Name) (a b i j : ℕ) → Conflicts entries kind x a b
    → StandsAt places a i → StandsAt places b j → i ≤ j

-- whoever the log commits has a place
abbrev pub LogCommitsStand : List Entry → BTreeMap ℕ ℕ → Type 0
LogCommitsStand entries places = (k t : ℕ) → slice_get entries k ≡ Some (Commit t)
    → (place : ℕ) × StandsAt places t place

-- whoever the logs commit has a place
abbrev pub CommitsStand : List SiteLog → BTreeMap ℕ ℕ → Type 0
CommitsStand sites places = (t : ℕ) → IsIn sites (Commit t) → (place : ℕ) × StandsAt places t place

-- at the item stands the greatest place so far
abbrev pub IsTop : BTreeMap (List ℕ) ℕ → Name → ℕ → Type 0
IsTop tops x top = get (slice_cmp nat_cmp) tops x ≡ Some top
