use Rattle.std.proofs.Common.{rules}
use Rattle.std.proofs.lemmas.Fn.{always_returns_same}
use Rattle.std.proofs.lemmas.List.Sorted.{IsNonDecreasingBy-from_sort}
use Rattle.sgt_draw.specs.declared.scene.Numbered.{Numbered}
use Rattle.sgt_draw.proofs.scene.Scene.settle.Goals as goal

pub returns-clause-committed : goal.returns-clause-committed
returns-clause-committed c =
    let rank = λ (r : Numbered). r.number in
    let ys = c.sort_by_key.new.self.items in
    let facts = c.in_ok-sort_by_key.ensures in
    record {
      all = facts.permutation;
      rising = IsNonDecreasingBy-from_sort rank ys
          (facts.sorted rank (always_returns_same _ _ _ (λ a r g called. (search rules, search rules))));
      stable = facts.stable rank (always_returns_same _ _ _ (λ a r g called. (search rules, search rules)));
    }
