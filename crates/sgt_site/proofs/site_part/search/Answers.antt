use Rattle.std.proofs.Common.{rules}
use Rattle.std.proofs.lemmas.Fn.{always_returns_same}
use Rattle.sgt_names.specs.Draft.{place_cmp, place_of}
use Rattle.sgt_names.proofs.Ranged.{searched}
use Rattle.sgt_names.proofs.Touched.{place_total, place_exact}
use Rattle.sgt_site.proofs.site_part.search.Goals as goal

pub returns-clause-found : goal.returns-clause-found
returns-clause-found c =
    let facts = c.binary_search_by.ensures in
    (searched place_of place_cmp place_total place_exact _ _ c.requires _ facts.bound
    (facts.position (λ t. place_cmp (place_of t) (c.args.number, c.args.item))
    (always_returns_same _ _ _ (λ a r g called. (search rules, search rules))))).0

pub returns-clause-absent : goal.returns-clause-absent
returns-clause-absent c =
    let facts = c.binary_search_by.ensures in
    (searched place_of place_cmp place_total place_exact _ _ c.requires _ facts.bound
    (facts.position (λ t. place_cmp (place_of t) (c.args.number, c.args.item))
    (always_returns_same _ _ _ (λ a r g called. (search rules, search rules))))).1
