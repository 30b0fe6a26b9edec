-- Statuses.
use Rattle.std.specs.Prelude.{◌≡◌, ◌≢◌, ℕ, Option, Some}

-- a yes of another number than is expected
abbrev pub IsUnexpected : (status : ℕ) (committed expected : Option ℕ) → Type 0
IsUnexpected status committed expected = (status ≡ 0)
    × ((count : ℕ) × (wanted : ℕ) × (committed ≡ Some count) × (expected ≡ Some wanted) × (count ≢ wanted))
