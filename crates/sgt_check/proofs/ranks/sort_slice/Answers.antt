use Rattle.std.proofs.Common.{sym, ap, ◌∙◌, is_lt, nat_cmp}
use Rattle.std.proofs.lemmas.Bool.{false≢true}
use Rattle.std.proofs.lemmas.List.Sorted.{ranks_by}
use Rattle.sgt_check.specs.contracts.ranks.RankedOrd.TheImpl.Laws as laws
use Rattle.sgt_check.proofs.Ranking.{key_less, rising_from}
use Rattle.sgt_check.proofs.ranks.sort_slice.Goals as goal

pub returns-clause-rising : goal.returns-clause-rising
returns-clause-rising c = λ k l a b le at at' before.
    let up = rising_from _ (ranks_by laws.total-law (λ x. x)) c.sort_unstable.new.self c.sort_unstable.ensures.sorted
    k l a b le at at' in
    false≢true (sym up ∙ ap is_lt (key_less b.key a.key (nat_cmp b.number a.number) before))
