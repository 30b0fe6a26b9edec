use Rattle.std.proofs.Common.{ℕ, List, length, subst}
use Rattle.std.proofs.lemmas.List.Sorted.{All-permutation}
use Rattle.std.proofs.lemmas.Result.{IfOk-weaker}
use Rattle.sgt_check.specs.Key.{ArePlaced, IsRanked}
use Rattle.sgt_check.specs.declared.ranks.Ranked.{Ranked}
use Rattle.sgt_check.proofs.Ranking.{has_shuffled, ranks_are}
use Rattle.sgt_check.proofs.ranks.ranks_of.Goals as goal

pub returns : goal.returns
returns c =
    let names = c.args.names.now in
    let old = c.in_ok-ranked.ranked.items in
    let sorted = c.sort.new.ranked.items in
    let shuffled = c.sort.ensures.permutation in
    IfOk-weaker c.places.result _ _
    (λ ranks placed. ranks_are names sorted ranks.items c.sort.ensures.rising
    (All-permutation (IsRanked names) old sorted shuffled c.in_ok-ranked.ensures.are)
    (has_shuffled old sorted (length names) shuffled c.in_ok-ranked.ensures.each)
    (subst (λ (count : ℕ). ArePlaced sorted ranks.items count (length sorted)) c.len.ensures
    (subst (λ (rs : List Ranked). ArePlaced rs ranks.items c.len.result (length rs)) c.as_slice.ensures.value placed)))
    c.places.ensures
