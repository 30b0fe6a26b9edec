-- What a draft touches, site by site.
use Rattle.std.specs.Prelude.{◌≡◌, ◌≢◌, ℕ, Bool, true, ◌&&◌, List, [], ◌∷◌, ◌++◌, All}
use Rattle.std.specs.List.{insert}
use Rattle.std.specs.Ordering.{nat_cmp}
use Rattle.sgt_names.specs.Ordered.{IsRisingBy}
use Rattle.sgt_names.specs.Draft.{AreRising, IsUsed}
use Rattle.sgt_names.specs.declared.draft.Touch.{Touch}

-- what contracts see of a part: its site, the items that it touches there, and whether one more
-- fits
pub record PartView : Type 0 where
  pub site : ℕ
  pub touched : List Touch
  pub has_room : Bool

-- what each part keeps: it touches something, at its site alone, by rising name
pub record IsPart (p : PartView) : Type 0 where
  pub rising : AreRising p.touched
  pub used : All IsUsed p.touched
  pub here : All (λ t. t.site ≡ p.site) p.touched
  pub some : p.touched ≢ []

-- a part that touches this item alone was put among the parts
pub record InsertsPart (old new : List PartView) (n : ℕ) (touch : Touch) : Type 0 where
  pub part : PartView
  pub site : part.site ≡ touch.site
  pub alone : part.touched ≡ touch ∷ []
  pub is : new ≡ insert old n part

-- the parts rise by site
abbrev pub PartsRise : List PartView → Type 0
PartsRise parts = IsRisingBy (λ p. p.site) nat_cmp parts

-- what the parts touch, one behind another
abbrev pub touched_in : List PartView → List Touch
touched_in [] = []
touched_in (p ∷ ps) = p.touched ++ touched_in ps

-- whether one more item fits at each site
abbrev pub all_fit : List PartView → Bool
all_fit [] = true
all_fit (p ∷ ps) = p.has_room && all_fit ps
