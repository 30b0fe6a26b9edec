use Rattle.std.proofs.Common.{rules}
use Rattle.std.specs.Ordering.{nat_cmp}
use Rattle.std.specs.Cmp.Lexicographic.{slice_cmp}
use Rattle.std.proofs.lemmas.Cmp.{nat_list_cmp_total}
use Rattle.std.proofs.lemmas.Map.Lookups.{exact_bytes}
use Rattle.std.proofs.lemmas.Fn.{always_returns_same}
use Rattle.sgt_site.specs.private.Cells.{Contents}
use Rattle.sgt_names.proofs.Ranged.{searched}
use Rattle.sgt_site.proofs.Found.{not_found}
use Rattle.sgt_site.proofs.cells.search_all.Goals as goal

pub returns-clause-found : goal.returns-clause-found
returns-clause-found c =
    let facts = c.binary_search_by.ensures in
    (searched (λ (d : Contents). d.item) (slice_cmp nat_cmp) nat_list_cmp_total (λ x y e. exact_bytes x y e) _ _
    c.requires _ facts.bound (facts.position (λ d. slice_cmp nat_cmp d.item c.args.item)
    (always_returns_same _ _ _ (λ a r g called. (search rules, search rules))))).0

pub returns-clause-absent : goal.returns-clause-absent
returns-clause-absent c =
    let facts = c.binary_search_by.ensures in
    not_found _ _ c.binary_search_by.result
    (searched (λ (d : Contents). d.item) (slice_cmp nat_cmp) nat_list_cmp_total (λ x y e. exact_bytes x y e) _ _
    c.requires _ facts.bound (facts.position (λ d. slice_cmp nat_cmp d.item c.args.item)
    (always_returns_same _ _ _ (λ a r g called. (search rules, search rules))))).1
