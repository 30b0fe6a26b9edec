use Rattle.sgt_order.proofs.Hinting.{some_none, some_on}
use Rattle.sgt_order.proofs.search.spread_hinted.Goals as goal
use Rattle.sgt_order.proofs.search.spread_hinted.Goals.{then-word-met+then-index-met-ne0, else-word-met}

pub loop-word-init : goal.loop-word-init
loop-word-init c = record {
  marked = some_none _ _;
  met = c.requires.met;
}

pub loop-word-preserved : goal.loop-word-preserved
loop-word-preserved c =
    elim c.if-word-met.branch [
      | then-word-met+then-index-met-ne0 w ↦ rw (w.marks-is, w.met-is) (record {
        marked = some_on _ _ _ _ c.loop-word.invariant.marked w.mark_word.ensures.marked;
        met = w.mark_word.ensures.met;
      })
      | else-word-met w ↦ rw (w.marks-is, w.met-is) c.loop-word.invariant
    ]

pub returns-clause-marked : goal.returns-clause-marked
returns-clause-marked c = some_on _ _ _ _ c.loop-word.invariant.marked c.mark_unnoted.ensures.marked
