-- The table of decisions.
use Rattle.std.specs.Prelude.{◌≡◌, ◌↔◌, ℕ, List, Option, Some, None, slice_get, slice_index_or}
use Rattle.std.specs.Ordering.{nat_cmp}
use Rattle.std.specs.BTreeMap.{get}
use Rattle.sgt_bundle.specs.declared.certificate.Decision.{Decision}
use Rattle.sgt_bundle.specs.Certificate.{decided_tx}
use Rattle.sgt_audit_decisions.specs.private.Outcome.{outcome_of}
use Rattle.sgt_audit_decisions.specs.declared.table.Placed.{Placed}
use Rattle.sgt_audit_decisions.specs.declared.table.Table.{Table}
use Rattle.sgt_audit_decisions.specs.declared.table.Table.TheVariants.{Dense, Sparse}

-- what stands in the table for a transaction
abbrev pub placed_at : Table → ℕ → Option (Placed ℕ)
placed_at (Dense places) tx = slice_index_or places.items tx None
placed_at (Sparse places) tx = get nat_cmp places tx

-- the number of the decision on the transaction, and what that comes to
abbrev pub IsPlacedOf : List Decision → ℕ → Placed ℕ → Type 0
IsPlacedOf decisions tx p = (d : Decision) × (slice_get decisions p.number ≡ Some d)
    × (decided_tx d ≡ tx) × (outcome_of d ≡ p.outcome)

-- so it is for each transaction that these decide, and for the others there is nothing
abbrev pub ArePlacedOf : List Decision → (ℕ → Option (Placed ℕ)) → Type 0
ArePlacedOf decisions places = (tx : ℕ) (p : Placed ℕ)
    → (places tx ≡ Some p) ↔ IsPlacedOf decisions tx p

abbrev pub IsTableOf : List Decision → Table → Type 0
IsTableOf decisions table = ArePlacedOf decisions (placed_at table)
