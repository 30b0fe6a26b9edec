use Rattle.std.proofs.Common.{◌≡◌, ◌++◌, drop, option_map, map}
use Rattle.serde_json.specs.View.{view}
use Rattle.sgt_bundle.specs.Private.{walk_in}
use Rattle.sgt_bundle.proofs.convert.walk.Given as goal

-- what was found, before what the rest gives, is what all give
abbrev pub invariant-loop-item : goal.invariant-loop-item
invariant-loop-item l =
    option_map (λ xs. l.found.items ++ xs) (walk_in l.sites (map view (drop l.item-index l.items))) ≡ walk_in l.sites
    (map view l.items)
