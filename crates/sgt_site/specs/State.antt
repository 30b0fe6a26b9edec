-- A site as contracts see it: its items, its log, the handles of its committed transactions and the
-- pledge that stands.
use Rattle.std.specs.Prelude.{◌≡◌, ℕ, suc, true, false, ◌==◌, List, [], ◌∷◌, ◌++◌, length, map, take, Option, Some, None, if◌then◌else◌, All, Any, Contains, slice_get, ◌↔◌, ◌≤◌, option_map, option_and_then}
use Rattle.std.specs.List.{filter_map}
use Rattle.std.specs.Option.{ForSome}
use Rattle.std.specs.Ordering.{nat_cmp}
use Rattle.std.specs.Cmp.Lexicographic.{slice_cmp}
use Rattle.sgt_names.specs.Limits.{max_items}
use Rattle.sgt_names.specs.Name.{Name}
use Rattle.sgt_names.specs.Ordered.{IsRisingBy}
use Rattle.sgt_names.specs.Entry.{tx_of, change_of, is_increment, Reads, IsEnd}
use Rattle.sgt_names.specs.Log.{names, IsOrderly, ReadsAreLegal}
use Rattle.sgt_names.specs.Draft.{AreRising, at_site, kept_in, writing_in}
use Rattle.sgt_names.specs.declared.draft.Touch.{Touch}
use Rattle.sgt_names.specs.declared.entry.Change.{Change}
use Rattle.sgt_names.specs.declared.entry.Change.TheVariants.{Put, Add}
use Rattle.sgt_names.specs.declared.entry.Entry.{Entry}
use Rattle.sgt_names.specs.declared.entry.Entry.TheVariants as entry
use Rattle.sgt_names.specs.declared.entry.Holding.{Holding}
use Rattle.sgt_arena.specs.declared.handle.Handle.{Handle}
use Rattle.sgt_site.specs.declared.cell.Install.{Install}
use Rattle.sgt_site.specs.declared.cell.Writer.{Writer}
use Rattle.sgt_site.specs.declared.cell.Reader.{Reader}

-- a pledge: whose it is, and what the draft that it was given for touches here
pub record Pledge : Type 0 where
  pub tx : ℕ
  pub part : List Touch

-- what contracts see of a site: its items with their first values, its log, each committed
-- transaction with its handle in the
-- order of the commits, and the pledge that stands
pub record SiteState : Type 0 where
  pub number : ℕ
  pub items : List Holding
  pub entries : List Entry
  pub installed : List Install
  pub pledge : Option Pledge

-- what contracts see of a site's log: the names of its items, its entries, each commit in it with the handle that was
-- given for it, and how many more entries take no memory
pub record LogState : Type 0 where
  pub items : List Name
  pub entries : List Entry
  pub installed : List Install
  pub spare : ℕ

-- the items that a site may be made of: at most so many, by rising name
pub record AreItems (items : List Holding) : Type 0 where
  pub room : length items ≤ max_items
  pub rising : IsRisingBy (λ h. h.item) (slice_cmp nat_cmp) items

-- a site with no entries
abbrev pub opened : ℕ → List Holding → SiteState
opened number items =
    record { number = number; items = items; entries = []; installed = []; pledge = None }

-- the version of an item after these entries: how often it was written or added to
abbrev pub version_at : List Entry → Name → ℕ
version_at entries x = length (filter_map (change_of x) entries)

-- the transaction read the item
abbrev pub HasRead : List Entry → ℕ → Name → Type 0
HasRead entries tx x = Any (λ e. (tx_of e ≡ tx) × Reads x e) entries

-- the transaction has its end in the log
abbrev pub HasEnded : List Entry → ℕ → Type 0
HasEnded entries tx = Any (λ e. (tx_of e ≡ tx) × IsEnd e) entries

-- the transaction read the item: it read this value, when the item had this version
pub record LogsRead (entries : List Entry) (tx : ℕ) (x : Name) (v n : ℕ) : Type 0 where
  pub place : ℕ
  pub at : slice_get entries place ≡ Some (entry.Read tx x v)
  pub version : version_at (take place entries) x ≡ n

-- these kept reads are all of the transaction's reads in the log, each with its value and version
abbrev pub KeepsReads : List Entry → ℕ → List (Name × ℕ × ℕ) → Type 0
KeepsReads entries tx kept = (x : Name) (v n : ℕ)
    → Contains kept (x, v, n) ↔ LogsRead entries tx x v n

-- the handle that was given for a committed transaction
abbrev pub handle_of : List Install → ℕ → Option Handle
handle_of [] tx = None
handle_of (i ∷ is) tx = if i.tx == tx then Some i.handle else handle_of is tx

-- the entry's transaction with its handle, if the entry writes the item or adds to it
abbrev pub writer : List Install → Name → Entry → Option Writer
writer installed x e =
    let made : Handle → Writer = λ h. record { tx = tx_of e; handle = h; increment = is_increment e } in
    option_and_then (λ (c : Change). option_map made (handle_of installed (tx_of e)))
    (change_of x e)

-- who wrote an item or added to it, with their handles, in the order of the log
abbrev pub writers_of : List Install → List Entry → Name → List Writer
writers_of installed entries x = filter_map (writer installed x) entries

-- the version that the last write of an item made, of these writers: 0 where none of them wrote.
-- Those since then only added to it
pub record IsVersionWritten (ws : List Writer) (n : ℕ) : Type 0 where
  pub within : n ≤ length ws
  pub write : (k : ℕ) (w : Writer) → suc k ≡ n → slice_get ws k ≡ Some w → w.increment ≡ false
  pub since : (k : ℕ) (w : Writer) → n ≤ k → slice_get ws k ≡ Some w → w.increment ≡ true

-- a committed transaction with its handle, which read the item at this version
abbrev pub IsReader : List Install → List Entry → Name → Reader → Type 0
IsReader installed entries x r = (handle_of installed r.tx ≡ Some r.handle)
    × ((v : ℕ) × LogsRead entries r.tx x v r.version)

-- the transaction that a commit commits
abbrev pub committed_in : Entry → Option ℕ
committed_in (entry.Commit tx) = Some tx
committed_in _ = None

-- a change as it is logged for a committed transaction, and as a refused one asked for it
abbrev pub change_entry : ℕ → Name → Change → Entry
change_entry tx x (Put v) = entry.Write tx x v
change_entry tx x (Add v) = entry.Add tx x v

abbrev pub want_entry : ℕ → Name → Change → Entry
want_entry tx x (Put v) = entry.Want tx x v
want_entry tx x (Add v) = entry.WantAdd tx x v

-- the blocks that end a transaction: its writes and increments and the commit, what it asked for
-- and the refusal, the withdrawal
abbrev pub commit_block : ℕ → List (Name × Change) → List Entry
commit_block tx cs = map (λ c. change_entry tx c.0 c.1) cs ++ entry.Commit tx ∷ []

abbrev pub refuse_block : ℕ → List (Name × Change) → List Entry
refuse_block tx cs = map (λ c. want_entry tx c.0 c.1) cs ++ entry.Refuse tx ∷ []

abbrev pub withdraw_block : ℕ → List Entry
withdraw_block tx = entry.Withdraw tx ∷ []

-- the entry asks for a write or an increment, in vain
abbrev pub IsWant : Entry → Type 0
IsWant (entry.Want tx x v) = Unit {0}
IsWant (entry.WantAdd tx x v) = Unit {0}
IsWant _ = ⊥

-- what a pledge for the transaction and its draft covers: items of this site by rising name, the
-- reads that the log has,
-- changes of items that are there, and no end yet
pub record IsCovered (s : SiteState) (p : Pledge) : Type 0 where
  pub here : All (λ t. t.site ≡ s.number) p.part
  pub rising : AreRising p.part
  pub reads : KeepsReads s.entries p.tx (kept_in p.part)
  pub known : All (λ c. Contains (names s.items) c.0) (writing_in p.part)
  pub active : HasEnded s.entries p.tx → ⊥

-- what every site keeps
pub record IsSite (s : SiteState) : Type 0 where
  pub items : AreItems s.items
  pub orderly : IsOrderly s.items s.entries
  pub legal : ReadsAreLegal s.items s.entries
  -- the handles are those of the commits, in the order of the log
  pub given : map (λ i. i.tx) s.installed ≡ filter_map committed_in s.entries
  -- who changes an item is committed, and who asked to is refused
  pub changes : (e : Entry) (x : Name) (c : Change) → Contains s.entries e → change_of x e ≡ Some c
      → Contains s.entries (entry.Commit (tx_of e))
  pub wants : (e : Entry) → Contains s.entries e → IsWant e
      → Contains s.entries (entry.Refuse (tx_of e))
  pub pledged : ForSome s.pledge (IsCovered s)

-- the pledge of the transaction stands
abbrev pub IsPledged : SiteState → ℕ → Type 0
IsPledged s tx = (part : List Touch) × (s.pledge ≡ Some (record { tx = tx; part = part }))

-- the pledge of the transaction stands for this draft
abbrev pub IsPledgedFor : SiteState → ℕ → List Touch → Type 0
IsPledgedFor s tx touched = s.pledge ≡ Some (record { tx = tx; part = at_site s.number touched })
