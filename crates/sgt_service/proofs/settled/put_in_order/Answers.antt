use Rattle.std.proofs.Common.{List, refl, sym, subst, ◌∙◌}
use Rattle.std.proofs.lemmas.Bool.{true≢false}
use Rattle.std.proofs.lemmas.List.Sorted.{IsNonDecreasingBy-from_sort_by_key, IsPermutation-refl}
use Rattle.sgt_workers.specs.Answers.{JobsRise}
use Rattle.sgt_workers.specs.declared.ticket.Done.{Done}
use Rattle.sgt_service.proofs.Ordering.{not_decreasing}
use Rattle.sgt_service.proofs.settled.put_in_order.Goals as goal

pub returns-then-rises : goal.returns-then-rises
returns-then-rises c =
    let rise =
    subst (λ (ds : List Done). JobsRise ds) c.as_slice.ensures.value (c.rise-rises.ensures.0 c.if-rises.true) in
    record {
      same = IsPermutation-refl c.args.dones.items;
      rising = not_decreasing c.args.dones.items rise;
      kept =
          λ r. refl;
    }

pub returns : goal.returns
returns c = record {
  same = c.sort_unstable_by_key.ensures.permutation;
  rising = IsNonDecreasingBy-from_sort_by_key (λ (d : Done). d.job) c.sort_unstable_by_key.new.self.items
      c.sort_unstable_by_key.ensures.sorted (λ a r f' called. search);
  kept = λ r. absurd
      (true≢false
      (sym (c.rise-rises.ensures.1 (subst (λ (ds : List Done). JobsRise ds) (sym c.as_slice.ensures.value) r))
      ∙ c.if-rises.false));
}
