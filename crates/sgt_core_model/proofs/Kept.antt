-- What every state of the core keeps.
-- The log of a site is spoken of with the block that it still gets, so the writing of a block changes nothing of what
-- is said.
use Rattle.std.specs.Prelude.{◌≡◌, ◌≢◌, ◌<◌, ◌≤◌, ◌⊎◌, ◌↔◌, ℕ, suc, true, false, List, [], ◌∷◌, ◌++◌, length, AllPairs, Contains, Some, slice_get, count_by}
use Rattle.std.specs.Option.{ForSome}
use Rattle.sgt_names.specs.Name.{Name}
use Rattle.sgt_names.specs.Entry.{tx_of, item_of, IsEnd, IsOpen, Continues, Repeats}
use Rattle.sgt_names.specs.Log.{names, ReadsAreLegal, Conflicts}
use Rattle.sgt_names.specs.declared.entry.Change.{Change}
use Rattle.sgt_names.specs.declared.entry.Entry.{Entry}
use Rattle.sgt_names.specs.declared.entry.Entry.TheVariants as entry
use Rattle.sgt_names.specs.declared.entry.Holding.{Holding}
use Rattle.sgt_names.specs.declared.entry.Kind.{Kind}
use Rattle.sgt_names.specs.declared.entry.Label.{Label}
use Rattle.sgt_site.specs.State.{version_at, commit_block, refuse_block}
use Rattle.sgt_order.specs.Graph.{IsTopological}
use Rattle.sgt_bundle.specs.declared.certificate.Step.{Step}
use Rattle.sgt_certifier.specs.Certifier.{State, Arc, Install, Ruling, committed, refused, withdrawn, ruled}
use Rattle.sgt_certifier.specs.History.{changes_item}
use Rattle.sgt_certifier.specs.Sound.{IsSoundCertifier, IsRuled}
use Rattle.sgt_core_model.specs.Core.{CoreState, items_at, is_some_change, is_committed}
use Rattle.sgt_core_model.specs.Step.{IsOwnOpen, gathered_in}
use Rattle.sgt_core_model.specs.Runs.{IsLoggedConflict, changed_by, IsLoggedInstall}

-- the site's log with the block that it still gets
abbrev pub written : CoreState → ℕ → List Entry
written c s = c.entries s ++ c.due s

-- ---- the order

-- the entries of transactions up to this one stand first
pub record AreOlderFirst (before : ℕ) (entries : List Entry) : Type 0 where
  pub older : List Entry
  pub newer : List Entry
  pub parts : entries ≡ older ++ newer
  pub old : (e : Entry) → Contains older e → tx_of e ≤ before
  pub new : (e : Entry) → Contains newer e → before < tx_of e

-- the committed transactions have an order that no logged conflict goes back in
pub record IsOrdered (c : CoreState) : Type 0 where
  pub certifier : IsSoundCertifier c.certifier
  -- blocks are due of the open step's transaction alone
  pub due : (s : ℕ) (e : Entry) → Contains (c.due s) e → c.certifier.step ≡ Some (tx_of e)
  -- who stands in a log was begun, and those of closed windows stand first
  pub begun : (s : ℕ) (e : Entry) → Contains (c.entries s) e → tx_of e ≤ c.certifier.begun
  pub windows : (s : ℕ) → AreOlderFirst c.certifier.before (c.entries s)
  -- each conflict between committed transactions of this window is an edge
  pub edges : (s : ℕ) (kind : Kind) (x : Name) (a b : ℕ) → Contains c.certifier.order a → Contains c.certifier.order b
      → Conflicts (written c s) kind x a b
      → Contains c.certifier.arcs (record { from = a; to = b; label = record { site = s; item = x; kind = kind } })
  -- no conflict between committed transactions of closed windows goes back in rank
  pub past : IsTopological (IsLoggedConflict (written c)) c.certifier.past

-- ---- the logs

abbrev pub IsRead : Entry → Type 0
IsRead (entry.Read tx x v) = Unit {0}
IsRead _ = ⊥

-- the decision suits an entry of its transaction
abbrev pub SuitsRuling : Entry → Ruling → Type 0
SuitsRuling (entry.Read tx x v) r = Unit {0}
SuitsRuling (entry.Write tx x v) (committed i) = Unit {0}
SuitsRuling (entry.Add tx x v) (committed i) = Unit {0}
SuitsRuling (entry.Want tx x v) (refused i walk) = Unit {0}
SuitsRuling (entry.WantAdd tx x v) (refused i walk) = Unit {0}
SuitsRuling (entry.Commit tx) (committed i) = Unit {0}
SuitsRuling (entry.Refuse tx) (refused i walk) = Unit {0}
SuitsRuling (entry.Withdraw tx) (withdrawn i) = Unit {0}
SuitsRuling _ _ = ⊥

-- the entry's transaction is decided by the decision of this number, and that suits the entry
abbrev pub IsRuledBy : List Ruling → Entry → ℕ → Type 0
IsRuledBy rulings e n = (r : Ruling) × (slice_get rulings n ≡ Some r) × (ruled r ≡ tx_of e) × SuitsRuling e r

-- the transaction is active and not decided
abbrev pub IsFree : State → ℕ → Type 0
IsFree s t = Contains s.active t × (s.step ≡ Some t → ⊥)

-- an entry is a read of a transaction that isn't decided, or it is decided, and an end of its transaction stands in
-- the log
abbrev pub Stands : State → List Entry → Entry → Type 0
Stands s log e =
    (IsRead e × IsFree s (tx_of e))
    ⊎ (((n : ℕ) × IsRuledBy s.rulings e n) × ((f : Entry) × Contains log f × IsEnd f × (tx_of f ≡ tx_of e)))

-- two ends stand in the order of their decisions
abbrev pub EndInRulingOrder : List Ruling → Entry → Entry → Type 0
EndInRulingOrder rulings e f = IsEnd e → IsEnd f → (m n : ℕ) (q r : Ruling) → slice_get rulings m ≡ Some q
    → slice_get rulings n ≡ Some r
    → ruled q ≡ tx_of e → ruled r ≡ tx_of f → m ≤ n

abbrev pub NotTwice : Entry → Entry → Type 0
NotTwice e f = (x : Name) → Repeats x e f → ⊥

abbrev pub NotEnded : Entry → Entry → Type 0
NotEnded e f = IsEnd e → tx_of e ≢ tx_of f

-- a log over these items, with the block that it still gets, in this state of the certifier
pub record IsLegalLog (items : List Holding) (s : State) (log : List Entry) : Type 0 where
  pub known : (e : Entry) → Contains log e → ForSome (item_of e) (Contains (names items))
  pub once : AllPairs NotTwice log
  pub closed : AllPairs NotEnded log
  pub stands : (e : Entry) → Contains log e → Stands s log e
  pub in_order : AllPairs (EndInRulingOrder s.rulings) log

-- each block in the entries goes on to the end that it belongs to
abbrev pub AreBlocks : List Entry → Type 0
AreBlocks entries = (n : ℕ) (e : Entry) → slice_get entries n ≡ Some e → IsOpen e
    → (f : Entry) × (slice_get entries (suc n) ≡ Some f) × Continues e f

-- a site's entries, and the block that is due there
pub record IsLegalSite (items : List Holding) (s : State) (entries due : List Entry) : Type 0 where
  pub log : IsLegalLog items s (entries ++ due)
  pub blocks : AreBlocks entries
  pub due_blocks : AreBlocks due
  pub reads : ReadsAreLegal items entries
  pub due_reads : (e : Entry) → Contains due e → IsRead e → ⊥

-- two private changes are of different items
abbrev pub AreApart : Name × Change → Name × Change → Type 0
AreApart d f = d.0 ≢ f.0

pub record IsLegal (c : CoreState) : Type 0 where
  pub sites : (s : ℕ) → s < length c.items → IsLegalSite (items_at c s) c.certifier (c.entries s) (c.due s)
  -- private changes are of items of the site, and of each at most one
  pub changes_known : (tx s : ℕ) (d : Name × Change) → Contains (c.changes tx s) d → Contains (names (items_at c s)) d.0
  pub changes_once : (tx s : ℕ) → AllPairs AreApart (c.changes tx s)

-- ---- the edges and the walks

-- the label tells a conflict of the logs
pub record IsAt (c : CoreState) (label : Label) (a b : ℕ) : Type 0 where
  pub site : label.site < length c.items
  pub conflict : Conflicts (written c label.site) label.kind label.item a b

abbrev pub AreAt : CoreState → ℕ → List Step → Type 0
AreAt c a [] = Unit {0}
AreAt c a (step ∷ steps) = IsAt c step.label a step.to × AreAt c step.to steps

pub record IsWalked (c : CoreState) : Type 0 where
  -- nothing is logged where no site is
  pub outside : (s : ℕ) → length c.items ≤ s → c.entries s ≡ []
  -- the edges, and the walks of the refusals, are conflicts of the logs
  pub arcs : (arc : Arc) → Contains c.certifier.arcs arc → IsAt c arc.label arc.from arc.to
  pub walks : (n tx : ℕ) (walk : List Step) → slice_get c.certifier.rulings n ≡ Some (refused tx walk) → AreAt c tx walk

-- ---- all of it

pub record IsSound (c : CoreState) : Type 0 where
  pub ordered : IsOrdered c
  pub ruled : IsRuled c.certifier
  pub legal : IsLegal c
  pub walked : IsWalked c

-- the transaction stands in the site's log with its block, or means to change an item there
abbrev pub IsThere : CoreState → ℕ → ℕ → Type 0
IsThere c i s = ((e : Entry) × Contains (written c s) e × (tx_of e ≡ i)) ⊎ (is_some_change (c.changes i s) ≡ true)

-- the block that is due of i at a site: none, or that of a commit or of a refusal
abbrev pub IsDueBlock : CoreState → ℕ → ℕ → Type 0
IsDueBlock c i s =
    (c.due s ≡ [])
    ⊎ (((is_committed c i ≡ true) × (c.due s ≡ commit_block i (c.changes i s)))
    ⊎ ((is_committed c i ≡ false) × (c.due s ≡ refuse_block i (c.changes i s))))

-- the installs that were noted are the versions of the items
pub record IsCounted (c : CoreState) : Type 0 where
  pub due : (i s : ℕ) → c.certifier.step ≡ Some i → IsDueBlock c i s
  pub counts : (s : ℕ) (x : Name) → version_at (c.entries s) x ≡ count_by (changes_item s x) c.certifier.installs

-- these are the installs that the logs tell, each once. A transaction changes nothing in a log in which its commit
-- doesn't stand
pub record AreInstalls (logs : ℕ → List Entry) (installs : List Install) : Type 0 where
  pub noted : (install : Install) → Contains installs install ↔ IsLoggedInstall logs install
  pub once : AllPairs (λ (a b : Install). (a.tx ≡ b.tx) × (a.site ≡ b.site) → ⊥) installs
  pub uncommitted : (s tx : ℕ) → (Contains (logs s) (entry.Commit tx) → ⊥) → changed_by tx (logs s) ≡ []

pub record IsKept (c : CoreState) : Type 0 where
  pub sound : IsSound c
  -- the certifier's open step is the core's, and is gathered wherever its transaction is there
  pub together : (i : ℕ) → c.certifier.step ≡ Some i → IsOwnOpen c i
  pub gathered : (i s : ℕ) → c.certifier.step ≡ Some i → IsThere c i s → Contains (gathered_in c.step) s
  pub counted : IsCounted c
  pub installs : AreInstalls c.entries c.certifier.installs
