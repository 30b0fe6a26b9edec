-- The sites that a draft touches.
use Rattle.std.specs.Prelude.{◌≡◌, ◌≢◌, ◌↔◌, ℕ, Bool, true, false, get_or, List, []}
use Rattle.sgt_names.specs.Draft.{Touches, at_site}
use Rattle.sgt_names.specs.declared.draft.Touch.{Touch}

-- whether the site of this number is one of these, by its flag
abbrev pub is_in : List Bool → ℕ → Bool
is_in flags s = get_or flags s false

abbrev pub IsIn : List Bool → ℕ → Type 0
IsIn flags s = is_in flags s ≡ true

-- they are the sites that are touched, and no others: there the draft has items, and elsewhere none
pub record AreSitesOf (flags : List Bool) (ts : List Touch) : Type 0 where
  pub touched : (s : ℕ) → IsIn flags s ↔ Touches ts s
  pub some : (s : ℕ) → IsIn flags s → at_site s ts ≢ []
  pub none : (s : ℕ) → is_in flags s ≡ false → at_site s ts ≡ []
