-- Flags of sites.
use Rattle.std.specs.Prelude.{◌≡◌, ◌↔◌, ◌⊎◌, ℕ, Bool, true, false, get_or, List}

-- the flags of these sites were set, and no others
abbrev pub Marks : (old new : List Bool) → (ℕ → Type 0) → Type 0
Marks old new Hits =
    (s : ℕ) → (get_or new s false ≡ true) ↔ ((get_or old s false ≡ true) ⊎ Hits s)
