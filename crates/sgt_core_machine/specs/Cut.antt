-- Where a log is cut: what the next one begins with.
use Rattle.std.specs.Prelude.{List, map}
use Rattle.sgt_names.specs.declared.entry.Holding.{Holding}
use Rattle.sgt_bundle.specs.Parts.{Parts}
use Rattle.sgt_bundle.specs.declared.bundle.SiteLog.{SiteLog}
use Rattle.sgt_core_model.specs.Core.{CoreState, bundle_of, site_log}
use Rattle.sgt_core_machine.specs.declared.machine.Place.{Place}

-- the final values of a bundle, site by site
abbrev pub finals_in : Parts → List (List Holding)
finals_in b = map (λ (log : SiteLog). log.finals) b.sites

-- the last values of the items, site by site
abbrev pub last_values : CoreState → List (List Holding)
last_values c = finals_in (bundle_of c)

-- ---- of the sites: words of private clauses alone

-- the logs of these sites, with the items before and after them
abbrev pub logs_at : List Place → List SiteLog
logs_at places = map (λ (p : Place). site_log p.site.items p.site.entries) places

-- the last values of their items
abbrev pub finals_at : List Place → List (List Holding)
finals_at places = map (λ (log : SiteLog). log.finals) (logs_at places)
