use Rattle.std.proofs.Common.{rules, ◌++◌, ◌∷◌, [], List, sym, ap, ap₂, ◌∙◌, subst, arith, take_all}
use Rattle.std.specs.Prelude.{IsPermutation}
use Rattle.std.specs.List.Sorted.{IsStableByKey}
use Rattle.std.specs.Ordering.{nat_cmp}
use Rattle.std.proofs.lemmas.Fn.{always_returns_same}
use Rattle.std.proofs.lemmas.List.Sorted.{IsNonDecreasingBy-from_sort}
use Rattle.sgt_names.proofs.Lists.{element_at}
use Rattle.sgt_explain_decisions.specs.Placed.{all_placed}
use Rattle.sgt_explain_decisions.specs.declared.placed.Placed.{Placed}
use Rattle.sgt_explain_decisions.proofs.Placing.{placed-next, ties-rise}
use Rattle.sgt_explain_decisions.proofs.placed.placed_in.Goals as goal

pub loop-number-preserved : goal.loop-number-preserved
loop-number-preserved c =
    let decisions = c.args.decisions.now in
    let n = c.loop-number.number in
    let d = c.index-decisions-number.result in
    c.in_ok-push.ensures.items
    ∙ ap₂ (λ tx (ps : List Placed). ps ++ record { tx = tx; number = n } ∷ []) c.tx.ensures c.loop-number.invariant
    ∙ sym (placed-next decisions n d (element_at decisions n d (omega arith) c.index-decisions-number.is))

pub returns : goal.returns
returns c =
    let decisions = c.args.decisions.now in
    let facts = c.in_ok-sort_by_key.ensures in
    record {
      all = subst (λ (ps : List Placed). IsPermutation ps c.sort_by_key.new.self.items) (c.loop-number.invariant
          ∙ ap all_placed (take_all c.loop-number.number decisions (omega (arith, c.loop-number-test.false))))
          facts.permutation;
      ties = ties-rise decisions c.sort_by_key.new.self.items
          (subst (λ (ps : List Placed). IsStableByKey (λ (p : Placed). p.tx) nat_cmp ps c.sort_by_key.new.self.items)
          (c.loop-number.invariant
          ∙ ap all_placed (take_all c.loop-number.number decisions (omega (arith, c.loop-number-test.false))))
          (facts.stable (λ (p : Placed). p.tx)
          (always_returns_same _ _ _ (λ a r g called. (search rules, search rules)))));
      rising = IsNonDecreasingBy-from_sort (λ (p : Placed). p.tx) c.sort_by_key.new.self.items
          (facts.sorted (λ (p : Placed). p.tx)
          (always_returns_same _ _ _ (λ a r g called. (search rules, search rules))));
    }
