-- What a cell keeps of an item, after the entries of its site so far.
use Rattle.std.specs.Prelude.{◌≡◌, ℕ, ◌≤◌, List, map, All, Contains, Option, Some, None}
use Rattle.sgt_names.specs.Name.{Name}
use Rattle.sgt_names.specs.Entry.{tx_of, Reads}
use Rattle.sgt_names.specs.Log.{names, value_at}
use Rattle.sgt_names.specs.declared.entry.Entry.{Entry}
use Rattle.sgt_names.specs.declared.entry.Entry.TheVariants.{Write, Add, Want, WantAdd}
use Rattle.sgt_names.specs.declared.entry.Holding.{Holding}
use Rattle.sgt_bundle.specs.Certificate.{IsCommitted}
use Rattle.sgt_bundle.specs.declared.certificate.Decision.{Decision}
use Rattle.sgt_audit_decisions.specs.Decided.{IsFound}
use Rattle.sgt_audit_cells.specs.declared.cell.Cell.{Cell}

-- the greatest number that an entry has, or no entry has one
abbrev pub IsGreatest : (Entry → ℕ → Type 0) → List Entry → Option ℕ → Type 0
IsGreatest Has entries None = (f : Entry) (r : ℕ) → Contains entries f → Has f r → ⊥
IsGreatest Has entries (Some top) = ((f : Entry) × Contains entries f × Has f top)
    × ((f : Entry) (r : ℕ) → Contains entries f → Has f r → r ≤ top)

-- the entry does it, and its transaction is committed with this rank
abbrev pub IsRankedWith : List Decision → (Entry → Type 0) → Entry → ℕ → Type 0
IsRankedWith ds Does e rank = Does e × ((number : ℕ) × IsCommitted ds number (tx_of e) rank)

-- the entry puts a value into the item, or asks to
abbrev pub Puts : Name → Entry → Type 0
Puts x (Write tx y v) = y ≡ x
Puts x (Want tx y v) = y ≡ x
Puts x _ = ⊥

-- the entry increments the item, or asks to
abbrev pub Increments : Name → Entry → Type 0
Increments x (Add tx y v) = y ≡ x
Increments x (WantAdd tx y v) = y ≡ x
Increments x _ = ⊥

-- the cell is what these entries make of its item: its value, and the greatest rank of a committed reader, writer,
-- incrementer
pub record IsCell (ds : List Decision) (items : List Holding) (entries : List Entry) (c : Cell) : Type 0 where
  pub value : value_at items entries c.name ≡ Some c.value
  pub reader : IsGreatest (IsRankedWith ds (Reads c.name)) entries c.reader
  pub writer : IsGreatest (IsRankedWith ds (Puts c.name)) entries c.writer
  pub adder : IsGreatest (IsRankedWith ds (Increments c.name)) entries c.adder

-- the cells are those of the site, in the order of its items
pub record AreCells (ds : List Decision) (items : List Holding) (entries : List Entry) (cells : List Cell) : Type 0
  where
    pub names : map (λ c. c.name) cells ≡ names items
    pub each : All (IsCell ds items entries) cells

-- the rank of the transaction, if it is committed
abbrev pub IsRankOf : List Decision → ℕ → Option ℕ → Type 0
IsRankOf ds tx rank = IsFound (λ r. (number : ℕ) × IsCommitted ds number tx r) rank
