use Rattle.std.proofs.Common.{sym, subst}
use Rattle.sgt_names.proofs.Lists.{element_at, take_next}
use Rattle.sgt_certifier.specs.Counted.{CountsEach}
use Rattle.sgt_certifier.proofs.Counting.{counts-next, fresh-at}
use Rattle.sgt_certifier.proofs.counts.Counts.add_each.Goals as goal

pub loop-item-preserved : goal.loop-item-preserved
loop-item-preserved c =
    let items = c.args.items.now in
    let at = element_at _ _ _ c.loop-item-test.true c.item-item.is in
    let fresh = fresh-at items _ _ c.requires.once at in
    subst (λ xs. CountsEach c.args.site xs c.args.self.now c.add.new.self) (sym (take_next items _ _ at))
    (counts-next c.args.site _ c.item-item.result c.args.self.now c.loop-item.self c.add.new.self
    c.loop-item.invariant fresh c.add.ensures.here c.add.ensures.others)
