use mathlib.Core.Bool.{false≢true}
use Rattle.sgt_edges.proofs.Slices.{before-unread, before-written}
use Rattle.sgt_edges.proofs.runs.before_write.Goals as goal
use Rattle.sgt_edges.proofs.runs.before_write.Goals.{else-ends_with_increment-via-then-ends_with_increment+else-is_read, else-ends_with_increment-via-else-ends_with_increment}

pub returns-else-ends_with_increment-clause-before : goal.returns-else-ends_with_increment-clause-before
returns-else-ends_with_increment-clause-before c = λ s x are. elim c.else-ends_with_increment.branch [
  | else-ends_with_increment-via-then-ends_with_increment+else-is_read w ↦
      before-unread s x c.args.writers.now are.wrote.0 are.wrote.1 _
      (c.in_front.ensures.neighbours s x are)
      (λ read. false≢true (w.if-is_read.ensures.1 (read.0, (are.read read.0).1 read.1, read.2)))
  | else-ends_with_increment-via-else-ends_with_increment w ↦
      before-written s x c.args.writers.now are.wrote.0 are.wrote.1 _
      (c.in_front.ensures.neighbours s x are) (λ adds. false≢true (w.if-ends_with_increment.ensures.1 adds))
]
