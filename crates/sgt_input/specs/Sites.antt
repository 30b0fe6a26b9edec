-- One more line of the sites that an input begins with.
use Rattle.std.specs.Prelude.{◌≡◌, ◌≢◌, ℕ, Bool, true, false, List, [], ◌∷◌, ◌++◌, length}
use Rattle.sgt_notation.specs.Events.{IsSiteLine, site_text}
use Rattle.sgt_notation.specs.declared.event.SiteLine.{SiteLine}

-- the line spells the next site, which is kept, or none
abbrev pub TakesSite : List SiteLine → List ℕ → List SiteLine → Bool → Type 0
TakesSite old line new true = (l : SiteLine) × IsSiteLine l × (l.site ≡ length old)
    × (line ≡ site_text l) × (new ≡ old ++ l ∷ [])
TakesSite old line new false =
    ((l : SiteLine) → IsSiteLine l → l.site ≡ length old → line ≢ site_text l) × (new ≡ old)
