use Rattle.std.proofs.Common.{take}
use Rattle.sgt_names.proofs.Lists.{element_at, All-next, All-weaken}
use Rattle.sgt_names.proofs.Places.{All_at}
use Rattle.sgt_certifier.specs.Counted.{HasPlace}
use Rattle.sgt_certifier.proofs.Counting.{on-err, widens-more}
use Rattle.sgt_certifier.proofs.counts.Counts.place_each.Goals as goal

pub returns-in_err-place-clause-err : goal.returns-in_err-place-clause-err
returns-in_err-place-clause-err c =
    let at = element_at _ _ _ c.loop-item-test.true c.item-item.is in
    on-err c.from_residual.result _ (λ all.
    c.in_err-place.ensures.err
    (c.loop-item.invariant.widens.kept _ _ (All_at (HasPlace c.args.self.now c.args.site) c.args.items.now _ _ all at)))

pub loop-item-preserved : goal.loop-item-preserved
loop-item-preserved c =
    let at = element_at _ _ _ c.loop-item-test.true c.item-item.is in
    let more = c.place.ensures.widens in
    record {
      widens = widens-more _ _ _ c.loop-item.invariant.widens more;
      placed = All-next (HasPlace c.place.new.self c.args.site) c.args.items.now _ _ at c.in_ok-place.ensures.ok
          (All-weaken (HasPlace c.loop-item.self c.args.site) (HasPlace c.place.new.self c.args.site)
          (take c.loop-item.item-index c.args.items.now)
          (λ x has. more.kept c.args.site x has) c.loop-item.invariant.placed);
    }
