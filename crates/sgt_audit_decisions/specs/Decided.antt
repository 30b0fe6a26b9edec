-- Decisions by their transactions.
use Rattle.std.specs.Prelude.{◌≡◌, ℕ, List, Option, Some, None, slice_get}
use Rattle.sgt_names.specs.Entry.{tx_of}
use Rattle.sgt_names.specs.declared.entry.Entry.{Entry}
use Rattle.sgt_bundle.specs.Certificate.{decided_tx, IsCommitted}
use Rattle.sgt_bundle.specs.Valid.{IsDecided}
use Rattle.sgt_bundle.specs.declared.certificate.Decision.{Decision}
use Rattle.sgt_audit_decisions.specs.declared.decided.Ruling.{Ruling}

-- the decision of this number is on the transaction
abbrev pub Decides : List Decision → (number tx : ℕ) → Type 0
Decides decisions number tx = (d : Decision) × (slice_get decisions number ≡ Some d)
    × (decided_tx d ≡ tx)

-- the number that was found is such a one, or there is none
abbrev pub IsFound : (ℕ → Type 0) → Option ℕ → Type 0
IsFound Is None = (n : ℕ) → Is n → ⊥
IsFound Is (Some n) = Is n

-- what is decided on the entry's transaction
pub record IsRulingOn (decisions : List Decision) (e : Entry) (r : Ruling) : Type 0 where
  pub number : IsFound (λ n. Decides decisions n (tx_of e)) r.number
  pub rank : IsFound (λ rank. (n : ℕ) × IsCommitted decisions n (tx_of e) rank) r.rank
  pub suiting : IsFound (IsDecided decisions e) r.suiting
