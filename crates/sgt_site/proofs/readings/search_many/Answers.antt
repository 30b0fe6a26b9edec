use Rattle.std.proofs.Common.{rules}
use Rattle.std.specs.Ordering.{nat_cmp}
use Rattle.std.proofs.lemmas.Cmp.{nat_cmp_total}
use Rattle.std.proofs.lemmas.Fn.{always_returns_same}
use Rattle.std.proofs.lemmas.Map.Lookups.{exact_unsigned}
use Rattle.sgt_site.specs.declared.readings.Reading.{Reading}
use Rattle.sgt_names.proofs.Ranged.{searched}
use Rattle.sgt_site.proofs.readings.search_many.Goals as goal

pub returns-clause-found : goal.returns-clause-found
returns-clause-found c =
    let facts = c.binary_search_by.ensures in
    (searched (λ (m : Reading). m.tx) nat_cmp nat_cmp_total exact_unsigned _ _ c.requires _ facts.bound
    (facts.position (λ m. nat_cmp m.tx c.args.tx)
    (always_returns_same _ _ _ (λ a r g called. (search rules, search rules))))).0

pub returns-clause-absent : goal.returns-clause-absent
returns-clause-absent c =
    let facts = c.binary_search_by.ensures in
    (searched (λ (m : Reading). m.tx) nat_cmp nat_cmp_total exact_unsigned _ _ c.requires _ facts.bound
    (facts.position (λ m. nat_cmp m.tx c.args.tx)
    (always_returns_same _ _ _ (λ a r g called. (search rules, search rules))))).1
