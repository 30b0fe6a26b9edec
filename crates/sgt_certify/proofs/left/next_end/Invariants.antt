use Rattle.sgt_certify_stuck.specs.Apart.{HasTx}
use Rattle.sgt_certify.specs.Lines.{AreDecidedBefore}
use Rattle.sgt_certify.proofs.left.next_end.Given as goal

abbrev pub invariant-loop-place : goal.invariant-loop-place
invariant-loop-place l = AreDecidedBefore (HasTx l.decided) l.entries l.place
