-- What is kept of the site whose section is open, in place of its entries.
use Rattle.std.specs.Prelude.{◌≡◌, ℕ, ◌<◌, List, length, Contains, Option, Some, None, slice_get}
use Rattle.std.specs.Option.{ForSome}
use Rattle.sgt_names.specs.Name.{Name}
use Rattle.sgt_names.specs.Entry.{item_of, IsEnd}
use Rattle.sgt_names.specs.Log.{names}
use Rattle.sgt_names.specs.declared.entry.Entry.{Entry}
use Rattle.sgt_names.specs.declared.entry.Holding.{Holding}
use Rattle.sgt_bundle.specs.Certificate.{decided_tx}
use Rattle.sgt_bundle.specs.Valid.{IsDecided}
use Rattle.sgt_bundle.specs.declared.certificate.Decision.{Decision}
use Rattle.sgt_audit_decisions.specs.Decided.{Decides, IsFound}
use Rattle.sgt_audit_cells.specs.Cells.{IsGreatest, AreCells}
use Rattle.sgt_audit_cells.specs.Records.{Record, IsRecord, live_among}
use Rattle.sgt_audit_cells.specs.declared.state.SiteState.{SiteState}

-- the number of a decision on the transaction, if there is one
abbrev pub IsNumberOf : List Decision → ℕ → Option ℕ → Type 0
IsNumberOf ds tx number = IsFound (λ n. Decides ds n tx) number

-- the place of the entry's item among the names, or its item is none of them
abbrev pub IsPlaceAmong : List Name → Entry → Option ℕ → Type 0
IsPlaceAmong ns e None = (x : Name) → item_of e ≡ Some x → Contains ns x → ⊥
IsPlaceAmong ns e (Some place) = (x : Name) × (slice_get ns place ≡ Some x) × (item_of e ≡ Some x)

-- the entry is an end, by the decision of this number
abbrev pub EndsBy : List Decision → Entry → ℕ → Type 0
EndsBy ds e number = IsEnd e × IsDecided ds e number

-- what is kept means these items and these entries of the open section, each of them decided and on a listed item
pub record TracksOpen (ds : List Decision) (items : List Holding) (entries : List Entry) (s : SiteState) : Type 0 where
  pub cells : AreCells ds items entries s.cells.items
  pub many : length s.records.each ≡ length ds
  pub records : (k : ℕ) (d : Decision) (r : Record) → slice_get ds k ≡ Some d → slice_get s.records.each k ≡ Some r
      → IsRecord (names items) entries (decided_tx d) r
  pub count : s.records.count ≡ length entries
  pub live : s.live ≡ live_among s.records.each
  pub order : IsGreatest (EndsBy ds) entries s.last_end
  pub decided : (f : Entry) → Contains entries f → (number : ℕ) × IsDecided ds f number
  pub listed : (f : Entry) → Contains entries f → ForSome (item_of f) (Contains (names items))

-- no section of this number or a later one was met
pub record IsReadyFor (ds : List Decision) (section : ℕ) (s : SiteState) : Type 0 where
  pub many : length s.records.each ≡ length ds
  pub before : s.section < section
