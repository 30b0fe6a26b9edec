-- The sites of a service as they are opened.
use Rattle.std.specs.Prelude.{ℕ, suc, List, [], ◌∷◌}
use Rattle.sgt_names.specs.declared.entry.Holding.{Holding}
use Rattle.sgt_site.specs.State.{SiteState, opened}

-- sites with these items, numbered one after another from the first, none with an entry
abbrev pub sites_from : ℕ → List (List Holding) → List SiteState
sites_from first [] = []
sites_from first (items ∷ rest) = opened first items ∷ sites_from (suc first) rest
