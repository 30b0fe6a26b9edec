use Rattle.std.proofs.Common.{subst}
use Rattle.sgt_order.specs.private.Search.{IsFrom, MarkedSome}
use Rattle.sgt_order.proofs.Hinting.{some_none, some_on}
use Rattle.sgt_order.proofs.search.mark_word.Goals as goal
use Rattle.sgt_order.proofs.search.mark_word.Goals.{then-bits-bit-eq1+in-Some, then-bits-bit-eq1+in_default, else-bits-bit-eq1}

pub loop-bit-init : goal.loop-bit-init
loop-bit-init c = record {
  marked = some_none _ _;
  met = c.requires.met;
}

pub loop-bit-preserved : goal.loop-bit-preserved
loop-bit-preserved c =
    elim c.if-bits-bit-eq1.branch [
      | then-bits-bit-eq1+in-Some w ↦
          let then =
          subst (λ es. MarkedSome (IsFrom c.args.from es) c.loop-bit.marks w.mark_hinted.new.marks)
          w.as_slice-in-Some.ensures.value w.mark_hinted.ensures.marked in
          rw (w.marks-is, w.met-is) (record {
            marked = some_on _ _ _ _ c.loop-bit.invariant.marked then;
            met = w.mark_hinted.ensures.met;
          })
      | then-bits-bit-eq1+in_default w ↦ rw (w.marks-is, w.met-is) c.loop-bit.invariant
      | else-bits-bit-eq1 w ↦ rw (w.marks-is, w.met-is) c.loop-bit.invariant
    ]
