-- What a service's ledgers are opened from.
use Rattle.std.specs.Prelude.{◌≡◌, ℕ}
use Rattle.sgt_service_locks.specs.declared.ledgers.Blanks.{Blanks}

-- the blanks are of the ledgers of decisions and of begins with these names, which have so many parts
abbrev pub AreOf : (decisions begins parts : ℕ) → Blanks → Type 0
AreOf decisions begins parts blanks =
    (blanks.decisions.name ≡ decisions) × (blanks.decisions.parts ≡ parts)
    × (blanks.begins.name ≡ begins) × (blanks.begins.parts ≡ parts)
