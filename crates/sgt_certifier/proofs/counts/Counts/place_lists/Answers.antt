use Rattle.std.proofs.Common.{take, subst, All}
use Rattle.sgt_names.proofs.Lists.{element_at, All-next, All-whole}
use Rattle.sgt_certifier.specs.Counted.{HasPlace, HavePlaces}
use Rattle.sgt_certifier.proofs.Counting.{places-kept, widens-more}
use Rattle.sgt_certifier.proofs.counts.Counts.place_lists.Goals as goal

pub loop-list-preserved : goal.loop-list-preserved
loop-list-preserved c =
    let at = element_at _ _ _ c.loop-list-test.true c.list-item.is in
    let more = c.place_each.ensures.widens in
    let new = c.place_each.new.self in
    record {
      widens = widens-more _ _ _ c.loop-list.invariant.widens more;
      placed = All-next (HavePlaces new) c.args.lists.now _ _ at
          (subst (All (HasPlace new c.list-item.result.site)) c.as_slice.ensures c.in_ok-place_each.ensures.ok)
          (places-kept c.loop-list.self new (take c.loop-list.list-index c.args.lists.now) more
          c.loop-list.invariant.placed);
    }

pub returns-clause-ok : goal.returns-clause-ok
returns-clause-ok c =
    All-whole (HavePlaces c.loop-list.self) c.args.lists.now _ c.loop-list-test.false c.loop-list.invariant.placed
