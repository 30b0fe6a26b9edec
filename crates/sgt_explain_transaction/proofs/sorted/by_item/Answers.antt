use Rattle.std.proofs.Common.{◌≡◌, ap, rules}
use Rattle.std.specs.Ordering.{is_lt}
use Rattle.std.proofs.lemmas.Fn.{always_returns_same}
use Rattle.std.proofs.lemmas.List.Sorted.{ranks_by}
use Rattle.sgt_explain_transaction.specs.declared.dealings.Own.{Own}
use Rattle.sgt_explain_transaction.specs.Found.{item_cmp}
use Rattle.sgt_explain_transaction.proofs.Beside.{item_total}
use Rattle.sgt_explain_transaction.proofs.sorted.by_item.Goals as goal

pub returns : goal.returns
returns c =
    let order = ranks_by item_total (λ (o : Own). o) in
    let compares = always_returns_same _ _ _ (λ a r g called. (
      let e : r ≡ item_cmp a.0.now a.1.0.now = search rules in
          ap is_lt e,
      search rules,
    )) in
    record {
      rising = c.in_ok-sort_by.ensures.sorted (λ x y. is_lt (item_cmp x y)) order compares;
      stable = c.in_ok-sort_by.ensures.stable (λ x y. is_lt (item_cmp x y)) order compares;
    }
