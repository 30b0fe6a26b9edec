-- Where the end of a rising list begins.
use Rattle.std.specs.Prelude.{◌≡◌, ◌<◌, ℕ, List, Some, slice_get}
use Rattle.std.specs.declared.cmp.Ordering.{Ordering}
use Rattle.std.specs.declared.cmp.Ordering.TheVariants.{Less}

-- the keys before this place are below the key
abbrev pub IsBelow : {A K : Type 0} → (A → K) → (K → K → Ordering) → List A → K → ℕ → Type 0
IsBelow {A} key cmp xs k n = (m : ℕ) (a : A) → m < n → slice_get xs m ≡ Some a
    → cmp (key a) k ≡ Less
