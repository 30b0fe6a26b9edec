use Rattle.std.proofs.Common.{rules, ap, ◌∙◌, map, subst, List}
use Rattle.std.specs.Ordering.{nat_cmp}
use Rattle.std.specs.List.Sorted.{IsPermutation, IsStableByKey}
use Rattle.std.proofs.lemmas.Fn.{always_returns_same}
use Rattle.std.proofs.lemmas.List.Sorted.{IsNonDecreasingBy-from_sort}
use Rattle.std.proofs.lemmas.Result.{IfOk-weaker}
use Rattle.sgt_serial.specs.declared.order.Ranked.{Ranked}
use Rattle.sgt_serial.proofs.ByRank.{by_rank-sorted}
use Rattle.sgt_serial.proofs.order.in_order.Goals as goal

pub returns : goal.returns
returns c =
    let rank = λ (r : Ranked). r.rank in
    let ys = c.sort_by_key.new.self.items in
    let facts = c.in_ok-sort_by_key.ensures in
    let rising =
    IsNonDecreasingBy-from_sort rank ys
    (facts.sorted rank (always_returns_same _ _ _ (λ a r g called. (search rules, search rules)))) in
    let stable = facts.stable rank (always_returns_same _ _ _ (λ a r g called. (search rules, search rules))) in
    IfOk-weaker c.transactions.result _ _ (λ v items decisions from.
    items ∙ ap (map (λ (r : Ranked). r.tx)) c.as_slice.ensures.value
    ∙ by_rank-sorted decisions ys (subst (λ (xs : List Ranked). IsPermutation xs ys) from facts.permutation) rising
    (subst (λ (xs : List Ranked). IsStableByKey rank nat_cmp xs ys) from stable)) c.transactions.ensures
