use Rattle.std.proofs.Common.{List, ◌+◌, sym, subst, All}
use Rattle.std.proofs.lemmas.List.Elements.{All-push}
use Rattle.sgt_check.specs.Key.{HasEach, IsRanked}
use Rattle.sgt_check.specs.declared.ranks.Ranked.{Ranked}
use Rattle.sgt_check.proofs.Ranking.{has_next}
use Rattle.sgt_check.proofs.ranks.with_keys.Goals as goal

pub loop-number-preserved : goal.loop-number-preserved
loop-number-preserved c =
    let names = c.args.names.now in
    let r : Ranked = record { key = c.in_ok-key.key; number = c.loop-number.number } in
    let items = c.in_ok-push.ensures.items in (
      subst (All (IsRanked names)) (sym items)
          (All-push (IsRanked names) c.loop-number.ranked.items r c.loop-number.invariant.0
          (c.get.result.now, c.get.ensures, c.in_ok-key.ensures)),
      subst (λ (rs : List Ranked). HasEach rs (c.loop-number.number + 1)) (sym items)
          (has_next c.loop-number.ranked.items r c.loop-number.invariant.1),
    )
