-- What is looked up in a history.
use Rattle.std.specs.Prelude.{◌≡◌, ◌≢◌, ◌↔◌, ◌≤◌, ◌<◌, ℕ, max, Bool, List, Option, Some, Contains, Vec, slice_get, length}
use Rattle.std.specs.declared.alloc.Global.{Global}
use Rattle.sgt_names.specs.Name.{Name}
use Rattle.sgt_names.specs.Log.{Conflicts}
use Rattle.sgt_names.specs.Entry.{tx_of, Clash}
use Rattle.sgt_names.specs.declared.entry.Entry.{Entry}
use Rattle.sgt_names.specs.declared.entry.Kind.{Kind}
use Rattle.sgt_arena.specs.declared.handle.Handle.{Handle}
use Rattle.sgt_edges.specs.declared.edge.Edge.{Edge}
use Rattle.sgt_order.specs.Graph.{Reaches}
use Rattle.sgt_certifier.specs.Certifier.{Ruling}
use Rattle.sgt_certifier.specs.declared.call.Call.{Call}
use Rattle.sgt_service_settle.specs.Told.{handed_in, IsNamed, IsCommittedBy}
use Rattle.sgt_service_settle.specs.Settled.{Carries}
use Rattle.sgt_service_settle.specs.declared.handed.Handed.{Handed}
use Rattle.sgt_service_settle.specs.declared.link.Cut.{Cut}
use Rattle.sgt_service_settle.specs.declared.link.Link.{Link}
use Rattle.sgt_service_settle.specs.declared.index.Index.{Index}
use Rattle.sgt_service_settle.specs.declared.carried.Rows.{Rows}
use Rattle.sgt_service_settle.specs.private.Words.{At, AreBySite}
use Rattle.sgt_service_settle.specs.private.Search.{Hold, Passes, IsMarked}

-- the windows name the transaction under the handle
abbrev pub Names : List (Vec ℕ Global) → Handle → ℕ → Type 0
Names windows h tx = At windows h.generation h.index tx

abbrev pub AreNamed : List Call → List (Vec ℕ Global) → Type 0
AreNamed history windows = (h : Handle) (tx : ℕ) → Names windows h tx ↔ IsNamed history h tx

-- the table has the number of the decision that commits the transaction
abbrev pub IsIn : List (Option ℕ) → ℕ → ℕ → Type 0
IsIn commits tx number = slice_get commits tx ≡ Some (Some number)

abbrev pub AreCommits : List Ruling → List (Option ℕ) → Type 0
AreCommits rulings commits = (tx number : ℕ)
    → IsIn commits tx number ↔ IsCommittedBy rulings tx number

-- the committed transaction under the handle
abbrev pub IsEnd : List (Vec ℕ Global) → List (Option ℕ) → Handle → ℕ → Type 0
IsEnd windows commits h tx = Names windows h tx × ((number : ℕ) × IsIn commits tx number)

-- the link is that of an edge between committed transactions
pub record IsLinkOf (windows : List (Vec ℕ Global)) (commits : List (Option ℕ)) (h : Handed) (l : Link) : Type 0 where
  pub from : IsEnd windows commits h.edge.from l.from
  pub to : IsEnd windows commits h.edge.to l.to
  pub label : l.label ≡ h.edge.label
  pub number : l.number ≡ h.number

abbrev pub AreLinks : List (Vec ℕ Global) → List (Option ℕ) → List Handed → List Link → Type 0
AreLinks windows commits handed links =
    (l : Link) → Contains links l
    ↔ ((h : Handed) × Contains handed h × IsLinkOf windows commits h l)

-- the edges that count, as the history tells them
abbrev pub CarriesBy : List Call → List Ruling → Cut → ℕ → ℕ → Type 0
CarriesBy history rulings cut a b = Carries history rulings cut.site cut.item cut.last a b

-- the edge is one that the decisions were handed
abbrev pub IsHandedIn : Index → Handed → Type 0
IsHandedIn index h = Contains (handed_in index.history.now) h

-- the link is that of such an edge, between committed transactions
abbrev pub IsIndexed : Index → Link → Type 0
IsIndexed index l = (h : Handed) × IsHandedIn index h × IsLinkOf index.windows.items index.commits.items h l

-- such a link that passes leads from a to b
abbrev pub LinkedBy : Index → Cut → ℕ → ℕ → Type 0
LinkedBy index cut a b = (l : Link) × IsIndexed index l × (l.from ≡ a) × (l.to ≡ b)
    × Passes cut l.label l.number

-- the edges at each site are those of the index
abbrev pub IsPaired : Index → Type 0
IsPaired index = AreBySite (handed_in index.history.now) index.sited.items

-- the rows have the links, by the transaction that they come from and by the one that they lead to
pub record AreRows (index : Index) (rows : Rows) : Type 0 where
  pub out_long : length rows.out.items ≡ length index.commits.items
  pub back_long : length rows.back.items ≡ length index.commits.items
  pub out : Hold rows.out.items (LinkedBy index)
  pub back : Hold rows.back.items (λ cut a b. LinkedBy index cut b a)

-- the index is that of the history
pub record IsIndex (history : List Call) (rulings : List Ruling) (index : Index) : Type 0 where
  pub names : AreNamed history index.windows.items
  pub commits : AreCommits rulings index.commits.items
  pub calls : index.history.now ≡ history
  pub links : (cut : Cut) (a b : ℕ) → LinkedBy index cut a b ↔ CarriesBy history rulings cut a b
  pub paired : IsPaired index

-- ---- a log

-- the edge is a conflict of the log
abbrev pub IsLoggedBy : List (Vec ℕ Global) → List Entry → Edge → Type 0
IsLoggedBy windows log e =
    (a : ℕ) × (b : ℕ) × Names windows e.from a × Names windows e.to b
    × Conflicts log e.label.kind e.label.item a b

-- each conflict of the log between committed transactions is carried
abbrev pub AreCarried : Index → ℕ → List Entry → Type 0
AreCarried index site log = (kind : Kind) (x : Name) (a b m n : ℕ) → Conflicts log kind x a b →
    IsIn index.commits.items a m → IsIn index.commits.items b n →
    Reaches (LinkedBy index (record { site = site; item = x; last = max m n })) a b

-- the other entry is another transaction's, committed by a decision of at most this number
pub record IsDue (commits : List (Option ℕ)) (e f : Entry) (last : ℕ) : Type 0 where
  pub apart : tx_of e ≢ tx_of f
  pub number : ℕ
  pub commit : IsIn commits (tx_of f) number
  pub early : number ≤ last

-- where the entry at p and the other at q conflict, this holds of the earlier and the later
-- transaction's side
pub record IsSided (Before After : Type 0) (x : Name) (p q : ℕ) (e f : Entry) : Type 0 where
  pub before : q < p → (kind : Kind) → Clash kind x f e → Before
  pub after : p ≤ q → (kind : Kind) → Clash kind x e f → After

-- the conflicts of the entry at p with those that are due have their marks
abbrev pub AllSided : List Entry → List (Option ℕ) → Cut → ℕ → Entry → List Bool → List Bool
    → Type 0
AllSided log commits cut p e forward backward = (q : ℕ) (f : Entry) → slice_get log q ≡ Some f
    → IsDue commits e f cut.last →
    IsSided (IsMarked backward (tx_of f)) (IsMarked forward (tx_of f)) cut.item p q e f

-- they are carried
abbrev pub IsPlaceCarried : Index → List Entry → Cut → ℕ → Entry → Type 0
IsPlaceCarried index log cut p e = (q : ℕ) (f : Entry) → slice_get log q ≡ Some f
    → IsDue index.commits.items e f cut.last →
    IsSided (Reaches (LinkedBy index cut) (tx_of f) (tx_of e))
    (Reaches (LinkedBy index cut) (tx_of e) (tx_of f))
    cut.item p q e f
