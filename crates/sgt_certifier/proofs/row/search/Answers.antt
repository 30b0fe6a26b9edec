use Rattle.std.proofs.Common.{rules}
use Rattle.std.specs.Ordering.{nat_cmp}
use Rattle.std.specs.Cmp.Lexicographic.{slice_cmp}
use Rattle.std.proofs.lemmas.Cmp.{nat_list_cmp_total}
use Rattle.std.proofs.lemmas.Fn.{always_returns_same}
use Rattle.std.proofs.lemmas.Map.Lookups.{exact_bytes}
use Rattle.sgt_names.proofs.Ranged.{searched}
use Rattle.sgt_certifier.specs.declared.row.ItemCount.{ItemCount}
use Rattle.sgt_certifier.proofs.row.search.Goals as goal

pub returns-clause-found : goal.returns-clause-found
returns-clause-found c =
    let facts = c.binary_search_by.ensures in
    let same = always_returns_same _ _ _ (λ a r g called. (search rules, search rules)) in
    (searched (λ (d : ItemCount). d.item) (slice_cmp nat_cmp) nat_list_cmp_total (λ x y e. exact_bytes x y e) _ _
    c.requires _ facts.bound
    (facts.position (λ d. slice_cmp nat_cmp d.item c.args.item) same)).0

pub returns-clause-absent : goal.returns-clause-absent
returns-clause-absent c =
    let facts = c.binary_search_by.ensures in
    let same = always_returns_same _ _ _ (λ a r g called. (search rules, search rules)) in
    (searched (λ (d : ItemCount). d.item) (slice_cmp nat_cmp) nat_list_cmp_total (λ x y e. exact_bytes x y e) _ _
    c.requires _ facts.bound
    (facts.position (λ d. slice_cmp nat_cmp d.item c.args.item) same)).1
