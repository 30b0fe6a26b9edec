use Rattle.std.proofs.Common.{◌∙◌, sym}
use Rattle.std.proofs.lemmas.List.Sorted.{All-permutation, IsNonDecreasingBy-from_sort_by_key, sum_by-IsPermutation}
use Rattle.sgt_workers.specs.declared.ticket.Done.{Done}
use Rattle.sgt_workers.specs.Answers.{IsJob}
use Rattle.sgt_workers.proofs.Weights.{weigh_jobs}
use Rattle.sgt_workers.proofs.Numbered.{in_turn}
use Rattle.sgt_workers.proofs.order.in_order.Goals as goal

pub returns-clause-jobs : goal.returns-clause-jobs
returns-clause-jobs c =
    let given = c.args.dones.items in
    let sorted = c.sort_unstable_by_key.new.self.items in
    let same = c.sort_unstable_by_key.ensures.permutation in
    let up = IsNonDecreasingBy-from_sort_by_key (λ (d : Done). d.job) sorted c.sort_unstable_by_key.ensures.sorted
    (λ a r f' called. search) in
    λ jobs within all.
    in_turn sorted jobs up (All-permutation (λ (d : Done). IsJob jobs d.job) given sorted same within)
    (λ weight. weigh_jobs weight sorted ∙ sum_by-IsPermutation (λ (d : Done). weight d.job) given sorted same
    ∙ sym (weigh_jobs weight given) ∙ all weight)
