use Rattle.std.proofs.Common.{rules}
use Rattle.std.proofs.lemmas.Fn.{always_returns_same}
use Rattle.std.proofs.lemmas.List.Sorted.{IsNonDecreasingBy-from_sort}
use Rattle.sgt_service_settle.specs.declared.deeds.Deed.{Deed as ADeed}
use Rattle.sgt_service_settle.proofs.deeds.by_number.Goals as goal

pub returns-clause-sorted : goal.returns-clause-sorted
returns-clause-sorted c =
    IsNonDecreasingBy-from_sort (λ (d : ADeed). d.number) c.sort_by_key.new.self.items
    (c.in_ok-sort_by_key.ensures.sorted (λ (d : ADeed). d.number)
    (always_returns_same _ _ _ (λ a r g called. (search rules, search rules))))
