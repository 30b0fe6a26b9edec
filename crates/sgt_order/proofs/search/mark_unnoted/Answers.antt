use Rattle.std.proofs.Common.{subst}
use Rattle.sgt_order.specs.private.Search.{IsFrom, MarkedSome}
use Rattle.sgt_order.proofs.Hinting.{some_none, some_on}
use Rattle.sgt_order.proofs.search.mark_unnoted.Goals as goal

pub loop-at-init : goal.loop-at-init
loop-at-init c = record {
  marked = some_none _ _;
  met = c.requires.met;
}

pub loop-at-preserved : goal.loop-at-preserved
loop-at-preserved c =
    let then =
    subst (λ es. MarkedSome (IsFrom c.args.from es) c.loop-at.marks c.mark_hinted.new.marks)
    c.as_slice-in-loop-at.ensures.value c.mark_hinted.ensures.marked in
    record {
      marked = some_on _ _ _ _ c.loop-at.invariant.marked then;
      met = c.mark_hinted.ensures.met;
    }
