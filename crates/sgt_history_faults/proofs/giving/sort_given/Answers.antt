use Rattle.std.proofs.Common.{◌≡◌, rules, arith}
use Rattle.std.proofs.lemmas.List.Sorted.{answers_always}
use Rattle.sgt_history_faults.specs.declared.giving.Given.{Given}
use Rattle.sgt_history_faults.proofs.GivenNext.{given-in-order}
use Rattle.sgt_history_faults.proofs.giving.sort_given.Goals as goal

pub returns-clause-sorted : goal.returns-clause-sorted
returns-clause-sorted c = given-in-order c.sort_unstable_by_key.new.self.items (record {
  each = λ k d lt. c.sort_unstable_by_key.ensures.sorted (λ (g : Given). (g.item, g.version, g.line, g.place))
      (answers_always _ _ _ (λ f a r g k. search rules)) k d (omega arith) lt;
})
