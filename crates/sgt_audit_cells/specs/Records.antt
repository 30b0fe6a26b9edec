-- What a transaction did at the site whose section is open.
use Rattle.std.specs.Prelude.{◌≡◌, ◌↔◌, ◌&&◌, ℕ, ◌+◌, Bool, false, not, IsTrue, List, [], ◌∷◌, Contains, Some, slice_get, if◌then◌else◌}
use Rattle.sgt_names.specs.Name.{Name}
use Rattle.sgt_names.specs.Entry.{tx_of, item_of, IsEnd}
use Rattle.sgt_names.specs.declared.entry.Entry.{Entry}
use Rattle.sgt_names.specs.declared.entry.Entry.TheVariants.{Read, Add, WantAdd}
use Rattle.sgt_audit_cells.specs.declared.act.Act.{Act}
use Rattle.sgt_audit_cells.specs.declared.act.Deed.{Deed}
use Rattle.sgt_audit_cells.specs.declared.act.Deed.TheVariants as deed

-- what a transaction did in the open section: whether it has an entry there, whether it ended there, and its operations
pub record Record : Type 0 where
  pub touched : Bool
  pub ended : Bool
  pub acts : List Act

-- what is kept of the open section: a record for each transaction, and how many entries there are
pub record Recorded : Type 0 where
  pub each : List Record
  pub count : ℕ

-- of one without an entry there
abbrev pub no_record : Record
no_record = record { touched = false; ended = false; acts = [] }

-- the transaction has an entry that does it
abbrev pub Did : List Entry → ℕ → (Entry → Type 0) → Type 0
Did entries tx Does = (f : Entry) × Contains entries f × (tx_of f ≡ tx) × Does f

-- it has an entry
abbrev pub HasEntry : List Entry → ℕ → Type 0
HasEntry entries tx = Did entries tx (λ f. Unit {0})

-- what the entry does to its item, if it has one
abbrev pub deed_of : Entry → Deed
deed_of (Read tx x v) = deed.Read
deed_of (Add tx x v) = deed.Add
deed_of (WantAdd tx x v) = deed.Add
deed_of _ = deed.Put

-- the act is an operation of the transaction, on one of these items
pub record IsAct (ns : List Name) (entries : List Entry) (tx : ℕ) (a : Act) : Type 0 where
  pub entry : Entry
  pub name : Name
  pub here : slice_get entries a.at ≡ Some entry
  pub of : tx_of entry ≡ tx
  pub item : slice_get ns a.place ≡ Some name
  pub on : item_of entry ≡ Some name
  pub deed : a.deed ≡ deed_of entry

-- the acts are all operations of the transaction, and nothing else
abbrev pub AreActs : List Name → List Entry → ℕ → List Act → Type 0
AreActs ns entries tx acts = (a : Act) → Contains acts a ↔ IsAct ns entries tx a

-- the record of a transaction that has an entry in the section, and no end
abbrev pub is_live : Record → Bool
is_live r = r.touched && not r.ended

-- the record is the transaction's
pub record IsRecord (ns : List Name) (entries : List Entry) (tx : ℕ) (r : Record) : Type 0 where
  pub touched : IsTrue r.touched ↔ HasEntry entries tx
  pub ended : IsTrue r.ended ↔ Did entries tx IsEnd
  pub acts : AreActs ns entries tx r.acts

-- how many of the records are live
abbrev pub live_among : List Record → ℕ
live_among [] = 0
live_among (r ∷ rs) = (if is_live r then 1 else 0) + live_among rs
