-- Bundles that go on from one another.
use Rattle.std.specs.Prelude.{◌≡◌, ℕ, suc, List, map, Some, slice_get}
use Rattle.sgt_bundle.specs.Parts.{Parts}
use Rattle.sgt_bundle.specs.declared.bundle.SiteLog.{SiteLog}
use Rattle.sgt_core_machine.specs.Cut.{finals_in}
use Rattle.sgt_names.specs.declared.entry.Holding.{Holding}

-- the initial values of a bundle, site by site
abbrev pub items_in : Parts → List (List Holding)
items_in b = map (λ (log : SiteLog). log.items) b.sites

-- each one's items begin with the values that the one before ended with, site by site
abbrev pub GoOn : List Parts → Type 0
GoOn bundles = (n : ℕ) (b c : Parts) → slice_get bundles n ≡ Some b
    → slice_get bundles (suc n) ≡ Some c → items_in c ≡ finals_in b
